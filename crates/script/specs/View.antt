-- A command without its references. Assumes nothing.
--   view   the bytes that a command borrows, in place of the reference
use Rattle.handles.specs.Calls.{call_view}
use Rattle.script.specs.declared.command.Command.{Command}
use Rattle.script.specs.declared.command.Command.TheVariants.{Call, Plan}
use Rattle.script.specs.Commands.{CommandView, call, plan}

abbrev pub view : Command → CommandView
view (Call made) = call (call_view made)
view (Plan entry) = plan entry
