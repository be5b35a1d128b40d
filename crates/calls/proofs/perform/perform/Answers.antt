use Rattle.std.proofs.Common.{refl, ap}
use Rattle.promises.specs.Events.{write, check, flush, cancel, turn, handle_write, handle_flush, handle_drop}
use Rattle.handles.specs.Calls.{call_view}
use Rattle.calls.proofs.perform.perform.Goals as goal

pub returns-in-Write : goal.returns-in-Write
returns-in-Write g c = (write c.in-Write.bytes.now c.write.result, record { call = ap call_view c.in-Write.is; answer = refl }, c.write.ensures)

pub returns-in-CheckWrite : goal.returns-in-CheckWrite
returns-in-CheckWrite g c = (check c.check_write.result, record { call = ap call_view c.in-CheckWrite.is; answer = refl }, c.check_write.ensures)

pub returns-in-Flush : goal.returns-in-Flush
returns-in-Flush g c = (flush c.flush.result, record { call = ap call_view c.in-Flush.is; answer = refl }, c.flush.ensures)

pub returns-in-Cancel : goal.returns-in-Cancel
returns-in-Cancel g c = (cancel, record { call = ap call_view c.in-Cancel.is; answer = refl }, c.cancel.ensures)

pub returns-in-Turn : goal.returns-in-Turn
returns-in-Turn g c = (turn c.turn.result, record { call = ap call_view c.in-Turn.is; answer = refl }, c.turn.ensures)

pub returns-in-PollWrite : goal.returns-in-PollWrite
returns-in-PollWrite g c = (handle_write c.in-PollWrite.handle c.in-PollWrite.bytes.now c.poll_write.result, record { call = ap call_view c.in-PollWrite.is; answer = refl }, c.poll_write.ensures)

pub returns-in-PollFlush : goal.returns-in-PollFlush
returns-in-PollFlush g c = (handle_flush c.in-PollFlush.handle c.poll_flush.result, record { call = ap call_view c.in-PollFlush.is; answer = refl }, c.poll_flush.ensures)

pub returns-in-DropHandle : goal.returns-in-DropHandle
returns-in-DropHandle g c = (handle_drop c.in-DropHandle.handle c.drop_handle.result, record { call = ap call_view c.in-DropHandle.is; answer = refl }, c.drop_handle.ensures)
