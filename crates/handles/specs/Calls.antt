-- The calls of a shared stream. Assumes nothing.
--   CallView    a call, with the bytes in place of the reference to them
--   call_view   the same of a call of the code
use Rattle.std.specs.Prelude.{ℕ, List}
use Rattle.handles.specs.declared.call.Call.{Call}
use Rattle.handles.specs.declared.call.Call.TheVariants.{Write, CheckWrite, Flush, Cancel, Turn, PollWrite, PollFlush, DropHandle}

pub data CallView : Type 0 where
  writes : List ℕ → CallView
  checks : CallView
  flushes : CallView
  cancels : CallView
  turns : CallView
  polls_write : ℕ → List ℕ → CallView
  polls_flush : ℕ → CallView
  drops : ℕ → CallView

abbrev pub call_view : Call → CallView
call_view (Write bytes) = writes bytes.now
call_view CheckWrite = checks
call_view Flush = flushes
call_view Cancel = cancels
call_view Turn = turns
call_view (PollWrite h bytes) = polls_write h bytes.now
call_view (PollFlush h) = polls_flush h
call_view (DropHandle h) = drops h
