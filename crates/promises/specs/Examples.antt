-- Two runs, call by call: the promises speak of something. Assumes nothing.
--   Bytes, takes_all, covers_all   a writer that takes all that it is offered and whose flush succeeds
--   Lawful                         it keeps the laws of a writer
--   waiting_history, WaitingRun    patient handles, no cancel, and a write that waits through a full round
--   first_poll_history, FirstPollCounts   a flush counts from its first poll, and not from its last
use Rattle.std.specs.Prelude.{◌≡◌, ℕ, List, [], ◌∷◌, ◌++◌, length, Ok}
use Rattle.writer.specs.Meaning.{WriteMeans, FlushMeans}
use Rattle.writer.specs.declared.answer.WriteAnswer.{WriteAnswer}
use Rattle.writer.specs.declared.answer.WriteAnswer.TheVariants.{Took}
use Rattle.writer.specs.declared.answer.FlushAnswer.{FlushAnswer}
use Rattle.writer.specs.declared.answer.FlushAnswer.TheVariants.{Done}
use Rattle.worker_stream.specs.WorkerView.{WorkerView}
use Rattle.worker_stream.specs.declared.write_stream.job.Turn.TheVariants.{Finished, Flushed}
use Rattle.handles.specs.declared.handle.HandleState.TheVariants.{Ready}
use Rattle.handles.specs.declared.handle.Poll.TheVariants.{Ready as Answer, Pending}
use Rattle.promises.specs.SharedView.{SharedView}
use Rattle.promises.specs.Events.{write, turn, handle_write, handle_flush}
use Rattle.promises.specs.Steps.{handle_state}
use Rattle.promises.specs.History.{History, start, ◌▷◌, accepted, writes, began, Patient, NoCancel, Waiting}
use Rattle.promises.specs.Promises.{Run}

pub record Bytes : Type 0 where
  pub taken : List ℕ
  pub covered : ℕ

abbrev pub takes_all : Bytes → List ℕ → WriteAnswer → Bytes → Type 0
takes_all a part r b = (r ≡ Took (length part)) × (b ≡ record { taken = a.taken ++ part; covered = a.covered })

abbrev pub covers_all : Bytes → FlushAnswer → Bytes → Type 0
covers_all a r b = (r ≡ Done) × (b ≡ record { taken = a.taken; covered = length a.taken })

abbrev pub nothing_taken : Bytes
nothing_taken = record { taken = []; covered = 0 }

pub record Lawful : Type 0 where
  pub wrote : (a b : Bytes) (part : List ℕ) (r : WriteAnswer) → takes_all a part r b → WriteMeans a.taken a.covered part r b.taken b.covered
  pub flushed : (a b : Bytes) (r : FlushAnswer) → covers_all a r b → FlushMeans a.taken a.covered r b.taken b.covered

-- budget 1, two handles: handle 1 is polled first behind handle 0, and after the turn that finishes handle 0's first byte it still waits behind the second
abbrev pub waiting_history : History
waiting_history =
    start ▷ handle_write 0 (7 ∷ 7 ∷ []) (Ok (Answer 1)) ▷ handle_write 0 (7 ∷ []) (Ok Pending) ▷ handle_write 1 (8 ∷ []) (Ok Pending) ▷ turn (Finished 1)
    ▷ handle_write 0 (7 ∷ []) (Ok (Answer 1)) ▷ handle_write 1 (8 ∷ []) (Ok Pending)

pub record WaitingRun : Type 0 where
  pub left : SharedView (WorkerView Bytes)
  pub run : Run takes_all covers_all 1 2 nothing_taken waiting_history left
  pub no_cancel : NoCancel waiting_history
  pub patient : Patient waiting_history
  pub waiting : Waiting 1 (writes (8 ∷ [])) 1 waiting_history

-- budget 2, two handles: the flush of handle 0 begins with one write accepted, and is done with two
abbrev pub before_done : History
before_done =
    start ▷ write (7 ∷ 7 ∷ []) (Ok tt) ▷ handle_flush 0 (Ok Pending) ▷ handle_write 1 (9 ∷ []) (Ok Pending) ▷ turn (Finished 2) ▷ handle_flush 0 (Ok Pending)
    ▷ turn Flushed ▷ handle_write 1 (9 ∷ []) (Ok (Answer 1))

abbrev pub first_poll_history : History
first_poll_history = before_done ▷ handle_flush 0 (Ok (Answer tt))

pub record FirstPollCounts : Type 0 where
  pub left : SharedView (WorkerView Bytes)
  pub run : Run takes_all covers_all 2 2 nothing_taken first_poll_history left
  pub still_open : handle_state 0 left ≡ Ready
  pub accepted_first : began 0 before_done ≡ 1
  pub accepted_last : length (accepted before_done) ≡ 2
  pub covered : left.stream.writer.covered ≡ 2
