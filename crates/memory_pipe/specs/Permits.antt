-- A permit of a memory pipe holds: no host turn touches a pipe. Assumes nothing.
use Rattle.std.specs.Prelude.{◌≡◌, ℕ, ◌<◌, ◌≤◌, Bool, true, false, cond, List, length, Ok, nat_lt, refl}
use Rattle.std.proofs.Common.{sym, ap, ◌∙◌, arith, lt-ltb, le-leb}
use Rattle.stream.specs.HostTurns.{HostTurns, none, more}
use Rattle.stream.specs.Meaning.{open_with, closed, permit}
use Rattle.stream.specs.StreamRules.{PermitRule}
use Rattle.memory_pipe.specs.PipeView.{PipeView, meaning, checked, accepts}

-- without host turns a stream stays as it is
stays : {V : Type 0} {s t : V} → HostTurns (λ a b. ⊥) s t → s ≡ t
stays none = refl
stays (more run d) = absurd d

permitted_room : (s : PipeView) (n : ℕ) → permit (meaning s) ≡ Ok n → length s.room ≡ n
permitted_room s n e = go (nat_lt 0 (length s.room)) e
  where
    go : (b : Bool) → permit (cond b (open_with (length s.room)) closed) ≡ Ok n → length s.room ≡ n
    go true e = cc
    go false e = absurd (let z : ◌≡◌ {A = ℕ} 0 1 = cc in omega arith)

fitting_accepted : (s : PipeView) (bytes : List ℕ) → 0 < length s.room → length bytes ≤ length s.room → accepts s bytes ≡ Ok tt
fitting_accepted s bytes some few = rw (lt-ltb 0 (length s.room) some, le-leb (length bytes) (length s.room) few)

pub permit_holds : PermitRule meaning (λ a b. ⊥) checked accepts
permit_holds s t n bytes e some few run =
    let is : length s.room ≡ n = permitted_room s n e in
    let kept : length t.room ≡ n = ap (λ v. length v.room) (sym (stays run)) ∙ is in
    rw (fitting_accepted t bytes (omega arith) (omega arith)) tt
