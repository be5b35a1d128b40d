-- A write of as many bytes as the permit allows, over any stream. Assumes nothing.
--   counted            the answer of a write, with its length where it is accepted
--   first_answer       the answer to a write of the first so many bytes: none is no write
--   first_left         what that leaves
--   permitted_answer   the answer, by what check_write told: its refusal, or what comes of the first bytes up to the permit
--   permitted_left     what that leaves
--   Permits            a stream of this meaning permits a write of so many bytes
use Rattle.std.specs.Prelude.{ℕ, ◌<◌, ◌≤◌, min, cond, List, length, take, Ok, Err, Result, nat_lt}
use Rattle.stream.specs.declared.error.StreamError.{StreamError}
use Rattle.stream.specs.Meaning.{Meaning, faulted, closed, open_with}

abbrev pub counted : ℕ → Result (Unit {0}) StreamError → Result ℕ StreamError
counted n (Ok x) = Ok n
counted n (Err e) = Err e

module _ {V : Type 0} (accepts : V → List ℕ → Result (Unit {0}) StreamError) where
  abbrev pub first_answer : ℕ → V → List ℕ → Result ℕ StreamError
  first_answer n s bytes = cond (nat_lt 0 n) (counted n (accepts s (take n bytes))) (Ok 0)

  abbrev pub permitted_answer : Result ℕ StreamError → V → List ℕ → Result ℕ StreamError
  permitted_answer (Ok n) s bytes = first_answer (min n (length bytes)) s bytes
  permitted_answer (Err e) s bytes = Err e

module _ {V : Type 0} (wrote : V → List ℕ → V) where
  abbrev pub first_left : ℕ → V → List ℕ → V
  first_left n s bytes = cond (nat_lt 0 n) (wrote s (take n bytes)) s

  abbrev pub permitted_left : Result ℕ StreamError → V → List ℕ → V
  permitted_left (Ok n) s bytes = first_left (min n (length bytes)) s bytes
  permitted_left (Err e) s bytes = s

abbrev pub Permits : Meaning → ℕ → Type 0
Permits (faulted f) n = ⊥
Permits closed n = ⊥
Permits (open_with permitted) n = (0 < permitted) × (n ≤ permitted)
