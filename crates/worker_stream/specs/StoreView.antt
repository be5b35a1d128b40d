-- The unfinished writes of a worker stream. Assumes nothing.
--   Queue       the unfinished writes, oldest first, and how much of the oldest the writer has taken
--   empty       no unfinished write
--   oldest      the oldest unfinished write
--   rest        what the writer has not taken of it yet
--   used        how many bytes the unfinished writes have together
--   queued      with one write more behind the others
--   advanced    with n bytes more of the oldest taken
--   popped      without the oldest
--   cuts        a list of bytes cut into parts of these lengths: so a store holds the writes
--   IsStored    the lengths cut all the bytes, which fit, and something of the oldest write is left, if it has any
use Rattle.std.specs.Prelude.{◌≡◌, ℕ, ◌+◌, ◌-◌, ◌≤◌, List, [], ◌∷◌, ◌++◌, length, take, drop, slice_index, slice_index_or, sum, sum_by}

pub record Queue : Type 0 where
  pub unfinished : List (List ℕ)
  pub progress : ℕ

abbrev pub empty : Queue
empty = record { unfinished = []; progress = 0 }

abbrev pub oldest : List (List ℕ) → List ℕ
oldest ws = slice_index_or ws 0 []

abbrev pub rest : Queue → List ℕ
rest q = drop q.progress (oldest q.unfinished)

abbrev pub used : Queue → ℕ
used q = sum_by length q.unfinished

abbrev pub queued : List ℕ → Queue → Queue
queued bytes q = record { unfinished = q.unfinished ++ bytes ∷ []; progress = q.progress }

abbrev pub advanced : ℕ → Queue → Queue
advanced n q = record { unfinished = q.unfinished; progress = q.progress + n }

abbrev pub popped : Queue → Queue
popped q = record { unfinished = drop 1 q.unfinished; progress = 0 }

abbrev pub cuts : List ℕ → List ℕ → List (List ℕ)
cuts [] bytes = []
cuts (n ∷ ns) bytes = take n bytes ∷ cuts ns (drop n bytes)

pub record IsStored (lengths bytes : List ℕ) (progress : ℕ) : Type 0 where
  pub whole : sum lengths ≡ length bytes
  pub along : progress ≤ slice_index lengths 0 - 1
  pub within : length bytes ≤ 4096
