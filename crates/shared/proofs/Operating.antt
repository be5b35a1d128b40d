-- What a poll meets of a stream, by its meaning. Assumes nothing.
use Rattle.std.proofs.Common.{◌≡◌, ℕ, zero, suc, ◌<◌, ◌≤◌, min, cond, List, length, take, Ok, Err, Result, sym, refl, ap, ◌∙◌, subst, arith, lt-ltb, length-take}
use Rattle.std.proofs.lemmas.List.{take_min}
use Rattle.stream.specs.declared.error.StreamError.{StreamError}
use Rattle.stream.specs.declared.error.StreamError.TheVariants.{LastOperationFailed, Closed, Trap}
use Rattle.stream.specs.Meaning.{Meaning, faulted, closed, open_with, permit}
use Rattle.stream.specs.HostTurns.{HostTurns, none}
use Rattle.stream.specs.StreamRules.{Honoured, PermitRule}
use Rattle.stream.specs.WritePermitted.{counted, first_answer, permitted_answer, first_left, permitted_left}
use Rattle.handles.specs.declared.handle.Poll.{Poll}
use Rattle.handles.specs.declared.handle.Poll.TheVariants.{Ready, Pending}
use Rattle.shared.specs.Operations.{WriteOperation}

-- no byte written means not yet
abbrev pub polled : Result ℕ StreamError → Result (Poll ℕ) StreamError
polled (Ok zero) = Ok Pending
polled (Ok (suc n)) = Ok (Ready (suc n))
polled (Err e) = Err e

module _
    {V : Type 0} (meaning : V → Meaning) (turned : V → V → Type 0) (checked : V → V) (accepts : V → List ℕ → Result (Unit {0}) StreamError) (wrote : V → List ℕ → V)
    (rule : PermitRule meaning turned checked accepts) (keeps : (s : V) (n : ℕ) → meaning s ≡ open_with n → checked s ≡ s) where
  -- a write under a permit, with no turn between, is accepted
  accepted : (s : V) (n : ℕ) (bytes : List ℕ) → meaning s ≡ open_with n → 0 < n → length bytes ≤ n → accepts s bytes ≡ Ok tt
  accepted s n bytes is pos few = go (accepts s bytes) refl (subst (λ u. Honoured meaning turned u s (accepts s bytes)) same (rule s s n bytes (ap permit is) pos few (subst (λ u. HostTurns turned u s) (sym same) none)))
    where
      same : checked s ≡ s
      same = keeps s n is

      go : (r : Result (Unit {0}) StreamError) → accepts s bytes ≡ r → Honoured meaning turned s s r → accepts s bytes ≡ Ok tt
      go (Ok x) e h = e
      go (Err (LastOperationFailed f)) e h = let u = h.untold in absurd (cc)
      go (Err Closed) e h = absurd h
      go (Err (Trap t)) e h = absurd h

  some_written :
      (s t : V) (bytes : List ℕ) (n k : ℕ) (r : Result ℕ StreamError) → meaning s ≡ open_with (suc n) → 0 < length bytes → k ≡ min (suc n) (length bytes) → r ≡ first_answer accepts k s bytes → t ≡ first_left wrote k s bytes →
      WriteOperation checked wrote (open_with (suc n)) bytes s (polled r) t
  some_written s t bytes n zero r is some e told left = absurd (omega arith)
  some_written s t bytes n (suc j) r is some e told left =
      let few : length (take (suc j) bytes) ≤ suc n = simp length-take (omega arith) in
      let some_bytes = lt-ltb 0 (suc j) (omega arith) in
      let ok : r ≡ Ok (suc j) = told ∙ ap (λ b. cond b (counted (suc j) (accepts s (take (suc j) bytes))) (Ok 0)) some_bytes ∙ ap (counted (suc j)) (accepted s (suc n) (take (suc j) bytes) is (omega arith) few) in
      record {
        told = ap polled ok ∙ ap (λ i. Ok (Ready i)) e;
        after = left ∙ ap (λ b. cond b (wrote s (take (suc j) bytes)) s) some_bytes ∙ ap (wrote s) (ap (λ i. take i bytes) e ∙ take_min (suc n) bytes);
      }

  pub written : (s t : V) (bytes : List ℕ) (r : Result ℕ StreamError) → 0 < length bytes → r ≡ permitted_answer accepts (permit (meaning s)) (checked s) bytes → t ≡ permitted_left wrote (permit (meaning s)) (checked s) bytes
      → WriteOperation checked wrote (meaning s) bytes s (polled r) t
  written s t bytes r some told left = go (meaning s) refl told left
    where
      go : (m : Meaning) → meaning s ≡ m → r ≡ permitted_answer accepts (permit m) (checked s) bytes → t ≡ permitted_left wrote (permit m) (checked s) bytes → WriteOperation checked wrote m bytes s (polled r) t
      go (faulted f) is told left = record { told = ap polled told; after = left }
      go closed is told left = record { told = ap polled told; after = left }
      go (open_with zero) is told left =
          let none_written : min 0 (length bytes) ≡ 0 = omega arith in
          record {
            told = ap polled (told ∙ ap (λ k. first_answer accepts k (checked s) bytes) none_written);
            after = left ∙ ap (λ k. first_left wrote k (checked s) bytes) none_written ∙ keeps s 0 is;
          }
      go (open_with (suc n)) is told left =
          let same = keeps s (suc n) is in
          some_written s t bytes n (min (suc n) (length bytes)) r is some refl (told ∙ ap (λ u. first_answer accepts (min (suc n) (length bytes)) u bytes) same) (left ∙ ap (λ u. first_left wrote (min (suc n) (length bytes)) u bytes) same)
