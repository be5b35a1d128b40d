-- What is printed of what a stream and a shared stream answer. Assumes nothing.
--   refused                  a refusal of a stream
--   call_refused             a refusal of a call of a shared stream, by its question or by the stream
--   direct_refused           a refusal of a direct call
--   handle_refused           a refusal of a handle's call
--   turn_printed             a turn
--   write_printed           what a handle's write answers
--   flush_printed            what a handle's flush answers
--   printed                  a reply of the shared stream
--   NothingOrBlank           a text is empty or begins with a blank
--   RefusalsTellTheirNumber  what is printed of a stream's refusal begins with its number, and that with no digit more
use Rattle.std.specs.Prelude.{◌≡◌, ℕ, List, [], ◌∷◌, ◌++◌, codes, decimal, Ok, Err}
use Rattle.stream.specs.declared.error.StreamError.{StreamError}
use Rattle.stream.specs.declared.error.StreamError.TheVariants.{LastOperationFailed, Closed, Trap}
use Rattle.worker_stream.specs.declared.write_stream.job.Turn.{Turn}
use Rattle.worker_stream.specs.declared.write_stream.job.Turn.TheVariants.{Stopped as TurnStopped, Finished as TurnFinished, Moved as TurnMoved, Flushed as TurnFlushed, Idle as TurnIdle, NotYet as TurnNotYet, Failed as TurnFailed}
use Rattle.stream.specs.Refusals.{number}
use Rattle.handles.specs.declared.error.CallError.{CallError}
use Rattle.handles.specs.declared.error.CallError.TheVariants.{Refused as Question, Stream}
use Rattle.handles.specs.Errors.{DirectError, HandleError}
use Rattle.handles.specs.declared.handle.Poll.{Poll}
use Rattle.handles.specs.declared.handle.Poll.TheVariants.{Ready, Pending}
use Rattle.handles.specs.Refusals.{direct_number, handle_number}
use Rattle.calls.specs.declared.answer.Answer.{Answer as Reply}
use Rattle.calls.specs.declared.answer.Answer.TheVariants.{Write, CheckWrite, Flush, Cancel, Turn as Turned, PollWrite, PollFlush, DropHandle}
use Rattle.answers.specs.declared.answer.Answer.{Answer}
use Rattle.answers.specs.declared.answer.Answer.TheVariants.{Accepted, Count, Done, Wait, Finished, Moved, Flushed, Idle, Stopped, Failed, Refused, Fault}
use Rattle.answers.specs.Answers.{answer_text}

-- a fault is printed with what it is, any other refusal by its number
abbrev pub refused : StreamError → Answer
refused (LastOperationFailed f) = Fault f
refused Closed = Refused (number Closed)
refused (Trap e) = Refused (number (Trap e))

abbrev pub call_refused : {R : Type 0} → (CallError R → ℕ) → CallError R → Answer
call_refused number_of (Question refusal) = Refused (number_of (Question refusal))
call_refused number_of (Stream e) = refused e

abbrev pub direct_refused : DirectError → Answer
direct_refused e = call_refused direct_number e

abbrev pub handle_refused : HandleError → Answer
handle_refused e = call_refused handle_number e

abbrev pub turn_printed : Turn → Answer
turn_printed TurnStopped = Stopped
turn_printed (TurnFinished n) = Finished n
turn_printed (TurnMoved n) = Moved n
turn_printed TurnFlushed = Flushed
turn_printed TurnIdle = Idle
turn_printed TurnNotYet = Wait
turn_printed TurnFailed = Failed

abbrev pub write_printed : Poll ℕ → Answer
write_printed (Ready n) = Count n
write_printed Pending = Wait

abbrev pub flush_printed : Poll (Unit {0}) → Answer
flush_printed (Ready x) = Done
flush_printed Pending = Wait

abbrev pub printed : Reply → Answer
printed (Write (Ok x)) = Accepted
printed (Write (Err e)) = direct_refused e
printed (CheckWrite (Ok n)) = Count n
printed (CheckWrite (Err e)) = direct_refused e
printed (Flush (Ok x)) = Accepted
printed (Flush (Err e)) = direct_refused e
printed Cancel = Accepted
printed (Turned word) = turn_printed word
printed (PollWrite (Ok poll)) = write_printed poll
printed (PollWrite (Err e)) = handle_refused e
printed (PollFlush (Ok poll)) = flush_printed poll
printed (PollFlush (Err e)) = handle_refused e
printed (DropHandle (Ok x)) = Accepted
printed (DropHandle (Err e)) = handle_refused e

abbrev pub NothingOrBlank : List ℕ → Type 0
NothingOrBlank [] = Unit {0}
NothingOrBlank (b ∷ more) = b ≡ 32

abbrev pub RefusalsTellTheirNumber : Type 0
RefusalsTellTheirNumber = (e : StreamError) → (more : List ℕ) × NothingOrBlank more × (answer_text (refused e) ≡ codes "e " ++ decimal (number e) ++ more)
