-- The commands of a script, by the bytes and numbers that they hold, and their canonical text. Assumes nothing.
--   CommandView   a command: a call of the shared stream, or an entry for the writer's plan
--   canonical     its text, with numbers in decimal and no leading zero
--   Plain         the command can be written in a script: its numbers are not too large
use Rattle.std.specs.Prelude.{ℕ, ◌^◌, ◌<◌, ◌≤◌, List, ◌++◌, codes, decimal}
use Rattle.handles.specs.Calls.{CallView, writes, checks, flushes, cancels, turns, polls_write, polls_flush, drops}
use Rattle.planned_writer.specs.declared.plan.PlanEntry.{PlanEntry}
use Rattle.planned_writer.specs.declared.plan.PlanEntry.TheVariants.{AtMost, NotYet, Fail}

pub data CommandView : Type 0 where
  call : CallView → CommandView
  plan : PlanEntry → CommandView

abbrev pub canonical : CommandView → List ℕ
canonical (call (writes bytes)) = codes "w " ++ bytes
canonical (call checks) = codes "c"
canonical (call flushes) = codes "f"
canonical (call cancels) = codes "x"
canonical (call turns) = codes "t"
canonical (call (polls_write handle bytes)) = codes "W " ++ (decimal handle ++ (codes " " ++ bytes))
canonical (call (polls_flush handle)) = codes "F " ++ decimal handle
canonical (call (drops handle)) = codes "D " ++ decimal handle
canonical (plan (AtMost most)) = codes "p " ++ decimal most
canonical (plan NotYet) = codes "q"
canonical (plan (Fail code)) = codes "r " ++ decimal code

abbrev pub Plain : CommandView → Type 0
Plain (call (writes bytes)) = Unit {0}
Plain (call checks) = Unit {0}
Plain (call flushes) = Unit {0}
Plain (call cancels) = Unit {0}
Plain (call turns) = Unit {0}
Plain (call (polls_write handle bytes)) = handle < 10 ^ 9
Plain (call (polls_flush handle)) = handle < 10 ^ 9
Plain (call (drops handle)) = handle < 10 ^ 9
Plain (plan (AtMost most)) = most ≤ 4096
Plain (plan NotYet) = Unit {0}
Plain (plan (Fail code)) = code ≤ 255
