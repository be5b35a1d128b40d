-- A script's lines after the first, read into a plan and a list of calls. Assumes nothing.
--   WriterView   the writer: planned over memory
--   Read         the writer so far, what each line prints (an answer said at once, or None where the next call answers), and the calls
--   read_line    one line more: a misfit is said, a plan entry is planned while no call has come, a call is kept
--   lines_read   some lines more
use Rattle.std.specs.Prelude.{ℕ, Bool, true, false, List, [], ◌∷◌, ◌++◌, replicate, Some, None, Option, nat_lt}
use Rattle.planned_writer.specs.declared.plan.PlanEntry.{PlanEntry}
use Rattle.memory_writers.specs.Area.{Area, fresh_area}
use Rattle.planned_writer.specs.Planned.{PlannedView, appended, most_entries, unplanned}
use Rattle.handles.specs.Calls.{CallView}
use Rattle.answers.specs.declared.answer.Answer.{Answer}
use Rattle.answers.specs.declared.answer.Answer.TheVariants.{Accepted, Refused, Misfit}
use Rattle.script.specs.Commands.{CommandView, call, plan}
use Rattle.script.specs.Parsing.{parsed}

abbrev pub WriterView : Type 0
WriterView = PlannedView Area

pub record Read : Type 0 where
  pub writer : WriterView
  pub slots : List (Option Answer)
  pub calls : List CallView

unfoldable pub unread : Read
unread = record { writer = unplanned (fresh_area 0 (replicate 32768 0)); slots = []; calls = [] }

abbrev pub says : Answer → Read → Read
says a r = record { writer = r.writer; slots = r.slots ++ Some a ∷ []; calls = r.calls }

abbrev pub makes : CallView → Read → Read
makes c r = record { writer = r.writer; slots = r.slots ++ None ∷ []; calls = r.calls ++ c ∷ [] }

abbrev pub plans_if : Bool → PlanEntry → Read → Read
plans_if true entry r = record { writer = appended entry r.writer; slots = r.slots ++ Some Accepted ∷ []; calls = r.calls }
plans_if false entry r = says (Refused 3) r

abbrev pub plans : List CallView → PlanEntry → Read → Read
plans [] entry r = plans_if (nat_lt r.writer.planned most_entries) entry r
plans (c ∷ cs) entry r = says Misfit r

abbrev pub reads : Option CommandView → Read → Read
reads None r = says Misfit r
reads (Some (call c)) r = makes c r
reads (Some (plan entry)) r = plans r.calls entry r

abbrev pub read_line : Read → List ℕ → Read
read_line r line = reads (parsed line) r

abbrev pub lines_read : Read → List (List ℕ) → Read
lines_read r [] = r
lines_read r (line ∷ more) = lines_read (read_line r line) more
