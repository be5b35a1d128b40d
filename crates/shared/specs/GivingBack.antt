-- How a poll gives its grant back, and what it then answers. Assumes nothing.
--   given_back    kept on not yet, else handed on: the handle is Ready with the one mark, or Closed with the other
--   answered_by   a closed stream answers the poll, and a fault is passed on whole
use Rattle.std.specs.Prelude.{ℕ, Bool, Ok, Err, Result}
use Rattle.stream.specs.declared.error.StreamError.{StreamError}
use Rattle.stream.specs.declared.error.StreamError.TheVariants.{LastOperationFailed, Closed as StreamClosed, Trap}
use Rattle.handles.specs.Errors.{HandleError}
use Rattle.handles.specs.declared.error.CallError.TheVariants.{Stream}
use Rattle.handles.specs.declared.handle.HandleState.TheVariants.{Ready, Locked, Closed}
use Rattle.handles.specs.declared.handle.Poll.{Poll}
use Rattle.handles.specs.declared.handle.Poll.TheVariants.{Ready as Answer, Pending}
use Rattle.promises.specs.SharedView.{SharedView, handle, without, with_handle}

abbrev pub given_back : {X S : Type 0} → Result (Poll X) StreamError → Bool → Bool → ℕ → SharedView S → SharedView S
given_back (Ok Pending) done ended h s = record { stream = s.stream; queue = s.queue; handles = with_handle h Locked (handle h s).mark s }
given_back (Ok (Answer x)) done ended h s = record { stream = s.stream; queue = without h s.queue; handles = with_handle h Ready done s }
given_back (Err e) done ended h s = record { stream = s.stream; queue = without h s.queue; handles = with_handle h Closed ended s }

abbrev pub answered_by : {X : Type 0} → Result (Poll X) StreamError → X → Result (Poll X) HandleError
answered_by (Ok p) when_closed = Ok p
answered_by (Err StreamClosed) when_closed = Ok (Answer when_closed)
answered_by (Err (LastOperationFailed f)) when_closed = Err (Stream (LastOperationFailed f))
answered_by (Err (Trap e)) when_closed = Err (Stream (Trap e))
