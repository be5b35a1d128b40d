-- What a shared stream is: a stream, the queue for its lock, and its handles. Assumes nothing.
--   HandleView    a handle: its state and its flushing mark
--   SharedView    the whole; the first in the queue holds the lock, the others stand in line
--   handle        a handle by its number; one that there is not reads as dropped
--   holds         whether a handle is first in the queue
--   joins         the queue once a handle has asked for the lock: a Ready one joins its end, any other is in it already
--   asked         the same, by the handle's state in a view
--   without       the queue without a handle
--   with_handle   the handles, with one in another state and with this mark
--   with_stream   the same handles and queue over another stream
--   waits         a handle stays in the queue, in this state
--   hands_on      a handle leaves the queue, in this state and with this mark: the next in line holds the lock
--   leaves        a handle is dropped: it leaves the queue, wherever it stood
--   fresh         a shared stream just made
use Rattle.std.specs.Prelude.{ℕ, Bool, false, cond, List, [], ◌∷◌, ◌++◌, replicate, ◌==◌, slice_index_or, slice_set}
use Rattle.handles.specs.declared.handle.StdoutHandle.{StdoutHandle}
use Rattle.handles.specs.declared.handle.HandleState.{HandleState}
use Rattle.handles.specs.declared.handle.HandleState.TheVariants.{Ready, Locking, Locked, Closed, Dropped}

abbrev pub HandleView : Type 0
HandleView = StdoutHandle

pub record SharedView (S : Type 0) : Type 0 where
  pub stream : S
  pub queue : List ℕ
  pub handles : List HandleView

abbrev pub dropped : HandleView
dropped = record { state = Dropped; mark = false }

abbrev pub holds : ℕ → List ℕ → Bool
holds h [] = false
holds h (first ∷ line) = first == h

abbrev pub joins : HandleState → ℕ → List ℕ → List ℕ
joins Ready h q = q ++ h ∷ []
joins Locking h q = q
joins Locked h q = q
joins Closed h q = q
joins Dropped h q = q

abbrev pub without : ℕ → List ℕ → List ℕ
without h [] = []
without h (x ∷ q) = cond (x == h) (without h q) (x ∷ without h q)

module _ {S : Type 0} where
  abbrev pub handle : ℕ → SharedView S → HandleView
  handle h s = slice_index_or s.handles h dropped

  abbrev pub asked : ℕ → SharedView S → List ℕ
  asked h s = joins (handle h s).state h s.queue

  abbrev pub with_handle : ℕ → HandleState → Bool → SharedView S → List HandleView
  with_handle h state mark s = slice_set s.handles h (record { state = state; mark = mark })

  abbrev pub with_stream : S → SharedView S → SharedView S
  with_stream stream s = record { stream = stream; queue = s.queue; handles = s.handles }

  abbrev pub waits : HandleState → ℕ → SharedView S → SharedView S
  waits state h s = record { stream = s.stream; queue = asked h s; handles = with_handle h state (handle h s).mark s }

  abbrev pub hands_on : HandleState → Bool → S → ℕ → SharedView S → SharedView S
  hands_on state mark stream h s = record { stream = stream; queue = without h (asked h s); handles = with_handle h state mark s }

  abbrev pub leaves : ℕ → SharedView S → SharedView S
  leaves h s = record { stream = s.stream; queue = without h s.queue; handles = with_handle h Dropped false s }

  abbrev pub fresh : S → ℕ → SharedView S
  fresh stream handles = record { stream = stream; queue = []; handles = replicate handles (record { state = Ready; mark = false }) }
