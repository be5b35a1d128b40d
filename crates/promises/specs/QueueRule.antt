-- Who stands in the queue for the lock. Assumes nothing.
--   occurrences    how often a handle stands in a queue
--   queued         a handle that is Locking or Locked counts one
--   count_queued   how many handles are Locking or Locked
--   EachQueued     a handle stands in the queue once when it is Locking or Locked, and otherwise not at all
--   NoMoreQueued   the queue is as long as the number of such handles
use Rattle.std.specs.Prelude.{◌≡◌, ℕ, suc, ◌+◌, cond, List, [], ◌∷◌, length, ◌==◌, slice_index_or}
use Rattle.handles.specs.declared.handle.HandleState.{HandleState}
use Rattle.handles.specs.declared.handle.HandleState.TheVariants.{Ready, Locking, Locked, Closed, Dropped}
use Rattle.promises.specs.SharedView.{HandleView, dropped}

abbrev pub occurrences : ℕ → List ℕ → ℕ
occurrences h [] = 0
occurrences h (x ∷ q) = cond (x == h) (suc (occurrences h q)) (occurrences h q)

abbrev pub queued : HandleState → ℕ
queued Ready = 0
queued Locking = 1
queued Locked = 1
queued Closed = 0
queued Dropped = 0

abbrev pub count_queued : List HandleView → ℕ
count_queued [] = 0
count_queued (x ∷ hs) = queued x.state + count_queued hs

abbrev pub EachQueued : List ℕ → List HandleView → Type 0
EachQueued q hs = (h : ℕ) → occurrences h q ≡ queued (slice_index_or hs h dropped).state

abbrev pub NoMoreQueued : List ℕ → List HandleView → Type 0
NoMoreQueued q hs = length q ≡ count_queued hs
