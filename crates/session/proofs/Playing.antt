-- What a script prints, line by line. Assumes nothing.
use Rattle.std.proofs.Common.{◌≡◌, ℕ, suc, ◌+◌, Bool, true, false, List, [], ◌∷◌, length, Some, None, Option, refl, ap, ◌∙◌, arith}
use Rattle.std.proofs.lemmas.List.{length_push}
use Rattle.stream.specs.declared.limits.refusal.LimitsError.{LimitsError}
use Rattle.stream.specs.LimitsRules.{refusal}
use Rattle.planned_writer.specs.declared.plan.PlanEntry.{PlanEntry}
use Rattle.calls.specs.declared.answer.Answer.{Answer as Reply}
use Rattle.handles.specs.Calls.{CallView}
use Rattle.answers.specs.declared.answer.Answer.{Answer}
use Rattle.script.specs.Commands.{CommandView, plan}
use Rattle.script.specs.Parsing.{parsed, limits}
use Rattle.script_reading.specs.Reading.{Read, unread, plans, plans_if, reads, read_line, lines_read}
use Rattle.session.specs.Merging.{merged}
use Rattle.session.specs.Scripts.{PlayedIf, AfterFirst, ScriptAnswers, NotRefused, OneEach}

-- each line has one slot, and each slot one answer
plan_slot : (cs : List CallView) (entry : PlanEntry) (r : Read) → length (plans cs entry r).slots ≡ length r.slots + 1
plan_slot [] entry r = go _
  where
    go : (b : Bool) → length (plans_if b entry r).slots ≡ length r.slots + 1
    go true = length_push r.slots _
    go false = length_push r.slots _
plan_slot (c ∷ cs) entry r = length_push r.slots _

line_slot : (o : Option CommandView) (r : Read) → length (reads o r).slots ≡ length r.slots + 1
line_slot (Some (plan entry)) r = plan_slot r.calls entry r
line_slot None r = length_push r.slots _
line_slot (Some _) r = length_push r.slots _

slots_count : (more : List (List ℕ)) (r : Read) → length (lines_read r more).slots ≡ length r.slots + length more
slots_count [] r = omega arith
slots_count (line ∷ more) r = omega (arith, slots_count more (read_line r line), line_slot (parsed line) r)

merged_count : (slots : List (Option Answer)) (replies : List Reply) → length (merged slots replies) ≡ length slots
merged_count [] replies = refl
merged_count (Some a ∷ slots) replies = ap suc (merged_count slots replies)
merged_count (None ∷ slots) [] = ap suc (merged_count slots [])
merged_count (None ∷ slots) (reply ∷ replies) = ap suc (merged_count slots replies)

no_slots : length unread.slots ≡ 0
unfolding unread
no_slots = refl

pub one_each : (ls : List (List ℕ)) (answers : List Answer) → ScriptAnswers ls answers → OneEach ls answers
one_each [] answers e = ap length e
one_each (first ∷ more) answers h = go (limits first) h
  where
    by_refusal : (o : Option LimitsError) (budget handles : ℕ) → PlayedIf o budget handles more answers → o ≡ None → length answers ≡ length more
    by_refusal None budget handles p e = ap length p.printed ∙ merged_count (lines_read unread more).slots p.replies ∙ slots_count more unread ∙ omega (arith, no_slots)
    by_refusal (Some x) budget handles p e = absurd (let z : ◌≡◌ {A = ℕ} 0 1 = cc in omega arith)

    go : (o : Option (ℕ × ℕ)) → AfterFirst o more answers → NotRefused o → length answers ≡ length more
    go None p e = absurd e
    go (Some (budget, handles)) p e = by_refusal (refusal budget handles) budget handles p e
