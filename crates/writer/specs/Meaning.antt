-- What each answer of a writer means. Assumes nothing.
--   Kept         neither the bytes taken nor the count covered changed
--   Joined       exactly the first n bytes of the part joined the bytes taken
--   CoversAll    all bytes taken are covered
--   WriteMeans   the meaning of an answer to a write
--   FlushMeans   the meaning of an answer to a flush
-- Throughout, t and c are the bytes taken and the count covered before the call, t' and c' after it.
use Rattle.std.specs.Prelude.{◌≡◌, ℕ, ◌≤◌, List, ◌++◌, length, take}
use Rattle.writer.specs.declared.answer.WriteAnswer.{WriteAnswer}
use Rattle.writer.specs.declared.answer.WriteAnswer.TheVariants.{Took, NotYet, Failed}
use Rattle.writer.specs.declared.answer.FlushAnswer.{FlushAnswer}
use Rattle.writer.specs.declared.answer.FlushAnswer.TheVariants.{Done, NotYet as FlushNotYet, Failed as FlushFailed}

pub record Kept (t : List ℕ) (c : ℕ) (t' : List ℕ) (c' : ℕ) : Type 0 where
  pub bytes : t' ≡ t
  pub count : c' ≡ c

pub record Joined (t : List ℕ) (c : ℕ) (part : List ℕ) (n : ℕ) (t' : List ℕ) (c' : ℕ) : Type 0 where
  pub within : n ≤ length part
  pub bytes : t' ≡ t ++ take n part
  pub count : c' ≡ c

pub record CoversAll (t : List ℕ) (t' : List ℕ) (c' : ℕ) : Type 0 where
  pub bytes : t' ≡ t
  pub count : c' ≡ length t

abbrev pub WriteMeans : List ℕ → ℕ → List ℕ → WriteAnswer → List ℕ → ℕ → Type 0
WriteMeans t c part (Took n) t' c' = Joined t c part n t' c'
WriteMeans t c part NotYet t' c' = Kept t c t' c'
WriteMeans t c part (Failed f) t' c' = Kept t c t' c'

abbrev pub FlushMeans : List ℕ → ℕ → FlushAnswer → List ℕ → ℕ → Type 0
FlushMeans t c Done t' c' = CoversAll t t' c'
FlushMeans t c FlushNotYet t' c' = Kept t c t' c'
FlushMeans t c (FlushFailed f) t' c' = Kept t c t' c'
