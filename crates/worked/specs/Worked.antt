-- Worked runs, as one list. Assumes nothing.
--   Worked   each run by its name: the calls from a stream just made, with their answers
use Rattle.std.specs.Prelude.{◌≡◌, ℕ, false, List, [], ◌∷◌, ◌++◌, replicate, Some, None, Ok, Err}
use Rattle.writer.specs.declared.answer.Fault.TheVariants.{WriteZero, Device}
use Rattle.planned_writer.specs.declared.plan.PlanEntry.TheVariants.{AtMost, Fail}
use Rattle.stream.specs.declared.error.StreamError.TheVariants.{LastOperationFailed, Closed, Trap}
use Rattle.stream.specs.declared.error.Trap.TheVariants.{FlushPending, OverBudget, TooManyWrites, NoRoom}
use Rattle.worker_stream.specs.declared.write_stream.job.Turn.TheVariants.{Stopped, Finished, Moved, Flushed, Failed}
use Rattle.stream.specs.declared.limits.refusal.LimitsError.TheVariants.{BudgetTooLarge, HandlesOutOfRange}
use Rattle.stream.specs.LimitsRules.{refusal}
use Rattle.stream.specs.Meaning.{permit, flush_answer}
use Rattle.memory_pipe.specs.PipeView.{PipeView, fresh as pipe, meaning as pipe_meaning, accepts as pipe_accepts, wrote as pipe_wrote}
use Rattle.handles.specs.Errors.{lock_held}
use Rattle.handles.specs.declared.handle.Poll.TheVariants.{Ready, Pending}
use Rattle.promises.specs.Events.{check as checked, turn as turned, handle_write}
use Rattle.worked.specs.Happens.{Happens, shared}
use Rattle.worked.specs.Shows.{write, check_write, flush, cancel, turn, free, ready, Shows, memory, stream}

abbrev pub two : List ℕ
two = 97 ∷ 98 ∷ []

abbrev pub four : List ℕ
four = 97 ∷ 98 ∷ 99 ∷ 100 ∷ []

abbrev pub three : List ℕ
three = 97 ∷ 98 ∷ 99 ∷ []

-- a pipe of three bytes
abbrev pub small_pipe : PipeView
small_pipe = pipe (0 ∷ 0 ∷ 0 ∷ [])

pub record FullPipe : Type 0 where
  pub too_long : pipe_accepts small_pipe four ≡ Err (Trap NoRoom)
  pub whole : pipe_accepts small_pipe three ≡ Ok tt
  pub no_permit : permit (pipe_meaning (pipe_wrote small_pipe three)) ≡ Err Closed
  pub no_flush : flush_answer (pipe_meaning (pipe_wrote small_pipe three)) ≡ Err Closed
  pub no_write : pipe_accepts (pipe_wrote small_pipe three) [] ≡ Err Closed

pub record LimitsRefused : Type 0 where
  pub budget : refusal 4097 1 ≡ Some BudgetTooLarge
  pub no_handle : refusal 4 0 ≡ Some HandlesOutOfRange
  pub many_handles : refusal 4 17 ≡ Some HandlesOutOfRange
  pub largest : refusal 4096 16 ≡ None

pub record Worked : Type 0 where
  pub whole_budget : Shows (stream 4 (memory 8 [])) (write four (Ok tt) ∷ [])
  pub past_budget : Shows (stream 4 (memory 8 [])) (write (101 ∷ four) (Err (Trap OverBudget)) ∷ [])
  pub nothing_free : Shows (stream 4 (memory 8 [])) (write four (Ok tt) ∷ check_write (Ok 0) ∷ write [] (Ok tt) ∷ [])
  pub flush_holds_writes :
      Shows (stream 4 (memory 8 []))
      (write two (Ok tt) ∷ flush (Ok tt) ∷ check_write (Ok 0) ∷ write [] (Err (Trap FlushPending)) ∷ turn (Finished 2) ∷ check_write (Ok 0) ∷ turn Flushed ∷ check_write (Ok 4) ∷ [])
  pub budget_returns_whole : Shows (stream 4 (memory 8 (AtMost 1 ∷ []))) (write two (Ok tt) ∷ turn (Moved 1) ∷ free 2 ∷ turn (Finished 2) ∷ free 4 ∷ [])
  pub fault_told_once :
      Shows (stream 4 (memory 8 (Fail 5 ∷ [])))
      (write two (Ok tt) ∷ flush (Ok tt) ∷ turn Failed ∷ check_write (Err (LastOperationFailed (Device 5))) ∷ check_write (Err Closed) ∷ free 2 ∷ [])
  pub nothing_taken : Shows (stream 4 (memory 1 [])) (write two (Ok tt) ∷ turn (Moved 1) ∷ turn Failed ∷ check_write (Err (LastOperationFailed WriteZero)) ∷ [])
  pub no_budget : Shows (stream 0 (memory 8 [])) (flush (Ok tt) ∷ turn Flushed ∷ ready false ∷ [])
  pub cancel_stops_turns : Shows (stream 4 (memory 8 [])) (cancel ∷ write two (Ok tt) ∷ turn Stopped ∷ [])
  pub many_empty_writes : Shows (stream 4 (memory 8 [])) (replicate 256 (write [] (Ok tt)) ++ check_write (Ok 0) ∷ write [] (Err (Trap TooManyWrites)) ∷ [])
  pub full_pipe : FullPipe
  pub handles_share :
      Happens (shared 2 2 (memory 8 []))
      (handle_write 0 three (Ok (Ready 2)) ∷ handle_write 1 (100 ∷ []) (Ok Pending) ∷ checked (Err lock_held) ∷ turned (Finished 2) ∷ handle_write 1 (100 ∷ []) (Ok (Ready 1)) ∷ [])
  pub limits_refused : LimitsRefused
