-- What the calls of a handle answer and leave, over the members of any output stream. Assumes nothing.
--   Outcome        the answer of a call and the view that it leaves
--   HandleResult   what a handle call answers: a value or a refusal
--   by_state       every handle call first asks whether there is such a handle, then whether it is closed
--   with_lock      a handle takes the lock, or waits in line for it
--   write_by       a write of a handle that holds the lock, by the stream's meaning
--   write_some     a write of a handle that is neither closed nor dropped: one of no bytes touches nothing
--   first_by       a flush's first stage at the lock, by the stream's meaning: it begins the stream's flush, sets the mark and goes on
--   second_by      a flush's second stage at the lock, by the stream's meaning: it waits until the stream is ready, and clears the mark
--   first_stage, second_stage   the two stages: each takes the lock
--   poll_write, poll_flush, drop_handle   the calls of a handle
use Rattle.std.specs.Prelude.{ℕ, zero, suc, min, true, false, cond, List, [], ◌∷◌, length, take, Ok, Err, Result}
use Rattle.stream.specs.Meaning.{Meaning, faulted, closed, open_with}
use Rattle.stream.specs.declared.error.StreamError.TheVariants.{LastOperationFailed}
use Rattle.handles.specs.declared.handle.HandleState.{HandleState}
use Rattle.handles.specs.declared.handle.HandleState.TheVariants.{Ready, Locking, Locked, Closed, Dropped}
use Rattle.handles.specs.declared.handle.Poll.{Poll}
use Rattle.handles.specs.declared.handle.Poll.TheVariants.{Ready as Answer, Pending}
use Rattle.handles.specs.Errors.{HandleError, no_such_handle}
use Rattle.handles.specs.declared.error.CallError.TheVariants.{Stream}
use Rattle.promises.specs.SharedView.{SharedView, handle, holds, asked, waits, hands_on, leaves}

pub record Outcome (R S : Type 0) : Type 0 where
  pub answer : R
  pub left : SharedView S

abbrev pub HandleResult : Type 0 → Type 0
HandleResult X = Result X HandleError

module _ {S : Type 0} where
  abbrev pub outcome : {R : Type 0} → R → SharedView S → Outcome R S
  outcome r s = record { answer = r; left = s }

  abbrev pub by_state : {X : Type 0} → HandleState → SharedView S → Outcome (HandleResult X) S → Outcome (HandleResult X) S → Outcome (HandleResult X) S
  by_state Dropped s when_closed when_open = outcome (Err no_such_handle) s
  by_state Closed s when_closed when_open = when_closed
  by_state Ready s when_closed when_open = when_open
  by_state Locking s when_closed when_open = when_open
  by_state Locked s when_closed when_open = when_open

  abbrev pub with_lock : {X : Type 0} → ℕ → SharedView S → Outcome (HandleResult (Poll X)) S → Outcome (HandleResult (Poll X)) S
  with_lock h s call = cond (holds h (asked h s)) call (outcome (Ok Pending) (waits Locking h s))

  abbrev pub drop_handle : ℕ → SharedView S → Outcome (HandleResult (Unit {0})) S
  drop_handle h s = by_state (handle h s).state s (outcome (Ok tt) (leaves h s)) (outcome (Ok tt) (leaves h s))

module _ {S : Type 0} (meaning : S → Meaning) (checked : S → S) (wrote : S → List ℕ → S) where
  abbrev pub write_by : Meaning → ℕ → List ℕ → SharedView S → Outcome (HandleResult (Poll ℕ)) S
  write_by (faulted f) h bytes s = outcome (Err (Stream (LastOperationFailed f))) (hands_on Closed (handle h s).mark (checked s.stream) h s)
  write_by closed h bytes s = outcome (Ok (Answer 0)) (hands_on Closed (handle h s).mark (checked s.stream) h s)
  write_by (open_with zero) h bytes s = outcome (Ok Pending) (waits Locked h s)
  write_by (open_with (suc n)) h bytes s = outcome (Ok (Answer (min (suc n) (length bytes)))) (hands_on Ready false (wrote s.stream (take (suc n) bytes)) h s)

  abbrev pub write_some : ℕ → List ℕ → SharedView S → Outcome (HandleResult (Poll ℕ)) S
  write_some h [] s = outcome (Ok (Answer 0)) s
  write_some h (b ∷ bytes) s = with_lock h s (write_by (meaning s.stream) h (b ∷ bytes) s)

  abbrev pub poll_write : ℕ → List ℕ → SharedView S → Outcome (HandleResult (Poll ℕ)) S
  poll_write h bytes s = by_state (handle h s).state s (outcome (Ok (Answer 0)) s) (write_some h bytes s)

module _ {S : Type 0} (meaning : S → Meaning) (checked flushed : S → S) where
  abbrev pub second_by : Meaning → ℕ → SharedView S → Outcome (HandleResult (Poll (Unit {0}))) S
  second_by (faulted f) h s = outcome (Err (Stream (LastOperationFailed f))) (hands_on Closed false (checked s.stream) h s)
  second_by closed h s = outcome (Ok (Answer tt)) (hands_on Closed false (checked s.stream) h s)
  second_by (open_with zero) h s = outcome (Ok Pending) (waits Locked h s)
  second_by (open_with (suc n)) h s = outcome (Ok (Answer tt)) (hands_on Ready false (checked s.stream) h s)

  abbrev pub second_stage : ℕ → SharedView S → Outcome (HandleResult (Poll (Unit {0}))) S
  second_stage h s = with_lock h s (second_by (meaning s.stream) h s)

  -- the accepted flush hands the lock on, and the second stage takes it anew
  abbrev pub first_by : Meaning → ℕ → SharedView S → Outcome (HandleResult (Poll (Unit {0}))) S
  first_by (faulted f) h s = outcome (Err (Stream (LastOperationFailed f))) (hands_on Closed (handle h s).mark (flushed s.stream) h s)
  first_by closed h s = outcome (Ok (Answer tt)) (hands_on Closed (handle h s).mark (flushed s.stream) h s)
  first_by (open_with zero) h s = outcome (Ok Pending) (waits Locked h s)
  first_by (open_with (suc n)) h s = second_stage h (hands_on Ready true (flushed s.stream) h s)

  abbrev pub first_stage : ℕ → SharedView S → Outcome (HandleResult (Poll (Unit {0}))) S
  first_stage h s = with_lock h s (first_by (meaning s.stream) h s)

  abbrev pub poll_flush : ℕ → SharedView S → Outcome (HandleResult (Poll (Unit {0}))) S
  poll_flush h s = by_state (handle h s).state s (outcome (Ok (Answer tt)) s) (cond (handle h s).mark (second_stage h s) (first_stage h s))
