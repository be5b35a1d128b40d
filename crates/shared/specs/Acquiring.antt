-- How a poll comes by the grant. Assumes nothing.
--   is_open    a handle that is neither closed nor dropped
--   Room       a handle that joins the line finds room there
--   First      the grant goes to the first in the queue
--   Acquires   what asking for the lock answers and leaves: no such handle, answered at once, in line, or granted
use Rattle.std.specs.Prelude.{◌≡◌, ℕ, ◌<◌, Bool, true, false, List, length, Ok, Err, Result}
use Rattle.handles.specs.declared.error.NoSuchHandle.{NoSuchHandle}
use Rattle.handles.specs.declared.handle.HandleState.{HandleState}
use Rattle.handles.specs.declared.handle.HandleState.TheVariants.{Ready, Locking, Locked, Closed, Dropped}
use Rattle.promises.specs.SharedView.{SharedView, handle, holds, asked, waits}
use Rattle.shared.specs.declared.locked_async.table.changes.Request.{Request}
use Rattle.shared.specs.declared.locked_async.table.changes.Request.TheVariants.{Nothing, Write, Flush}
use Rattle.shared.specs.declared.locked_async.parts.polls.Acquired.{Acquired}
use Rattle.shared.specs.declared.locked_async.parts.polls.Acquired.TheVariants.{Answered, InLine, Granted}

abbrev pub is_open : HandleState → Bool
is_open Ready = true
is_open Locking = true
is_open Locked = true
is_open Closed = false
is_open Dropped = false

abbrev pub wants : Request → Bool
wants Nothing = false
wants Write = true
wants Flush = true

-- closed, or open with nothing to do
abbrev pub Needless : HandleState → Request → Type 0
Needless Ready r = wants r ≡ false
Needless Locking r = wants r ≡ false
Needless Locked r = wants r ≡ false
Needless Closed r = Unit {0}
Needless Dropped r = ⊥

abbrev pub First : ℕ → List ℕ → Acquired → Type 0
First h q Answered = ⊥
First h q InLine = holds h q ≡ false
First h q (Granted grant) = (holds h q ≡ true) × (grant.handle ≡ h)

module _ {S : Type 0} where
  abbrev pub Room : ℕ → SharedView S → Type 0
  Room h s = (handle h s).state ≡ Ready → length s.queue < 16

  pub record Refused (h : ℕ) (s : SharedView S) (t : SharedView S) : Type 0 where
    pub state : (handle h s).state ≡ Dropped
    pub left : t ≡ s

  pub record Idle (h : ℕ) (request : Request) (s t : SharedView S) : Type 0 where
    pub needless : Needless (handle h s).state request
    pub left : t ≡ s

  pub record Entered (h : ℕ) (request : Request) (first : Bool) (s t : SharedView S) : Type 0 where
    pub open_now : is_open (handle h s).state ≡ true
    pub wanted : wants request ≡ true
    pub there : h < length s.handles
    pub place : holds h (asked h s) ≡ first
    pub left : t ≡ waits Locking h s

  abbrev pub Acquires : ℕ → Request → SharedView S → Result Acquired NoSuchHandle → SharedView S → Type 0
  Acquires h request s (Err refusal) t = Refused h s t
  Acquires h request s (Ok Answered) t = Idle h request s t
  Acquires h request s (Ok InLine) t = Entered h request false s t
  Acquires h request s (Ok (Granted grant)) t = Entered h request true s t × (grant.handle ≡ h)
