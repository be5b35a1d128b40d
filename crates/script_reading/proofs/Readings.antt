-- What a reading has read, line by line. Assumes nothing.
use Rattle.std.proofs.Common.{◌≡◌, ℕ, nat_lt, List, [], ◌∷◌, ◌++◌, map, length, replicate, Option, refl, ap, ◌∙◌}
use Rattle.std.proofs.lemmas.List.{map_push, nil_from_length}
use Rattle.planned_writer.specs.declared.plan.PlanEntry.{PlanEntry}
use Rattle.answers.specs.declared.answer.Answer.TheVariants.{Misfit}
use Rattle.memory_writers.specs.declared.memory.MemoryWriter.{MemoryWriter}
use Rattle.planned_writer.specs.declared.planned.PlannedWriter.{PlannedWriter}
use Rattle.memory_writers.specs.Area.{fresh_area}
use Rattle.planned_writer.specs.Planned.{planned_view, unplanned, most_entries}
use Rattle.handles.specs.declared.call.Call.{Call}
use Rattle.handles.specs.Calls.{call_view}
use Rattle.answers.specs.declared.answer.Answer.{Answer}
use Rattle.script_reading.specs.Reading.{Read, unread, says, plans, plans_if}
use Rattle.script_reading.specs.ReadingOf.{writer_view}

pub calls_more : (cs : List Call) (c : Call) → map call_view (cs ++ c ∷ []) ≡ map call_view cs ++ call_view c ∷ []
calls_more = map_push call_view

pub nothing_read : (w : PlannedWriter MemoryWriter) (m : MemoryWriter) (bytes : List ℕ) (slots : List (Option Answer)) (cs : List Call) → planned_view w ≡ unplanned m → m ≡ fresh_area 0 bytes → bytes ≡ replicate 32768 0 → slots ≡ [] → cs ≡ [] →
    record { writer = writer_view w; slots = slots; calls = map call_view cs } ≡ unread
unfolding unread
nothing_read w m bytes slots cs e f h s k =
    rw (s, k) (ap (λ v. record { writer = v; slots = []; calls = [] }) e ∙ ap (λ a. record { writer = unplanned a; slots = []; calls = [] }) (f ∙ ap (fresh_area 0) h))

pub plans_late : (entry : PlanEntry) (cs : List Call) (r : Read) → (length cs ≡ 0 → ⊥) → plans (map call_view cs) entry r ≡ says Misfit r
plans_late entry [] r some = absurd (some refl)
plans_late entry (c ∷ cs) r some = refl

pub plans_first : (entry : PlanEntry) (cs : List Call) (r : Read) → length cs ≡ 0 → plans (map call_view cs) entry r ≡ plans_if (nat_lt r.writer.planned most_entries) entry r
plans_first entry cs r none = ap (λ ds. plans (map call_view ds) entry r) (nil_from_length cs none)
