-- What an answer to the part that a planned writer handed down means of the whole part. Assumes nothing.
use Rattle.std.specs.Prelude.{ℕ, ◌≤◌, min, List, [], ◌∷◌, ◌++◌, length, take}
use Rattle.std.proofs.Common.{ap, ◌∙◌, arith, length-take}
use Rattle.std.proofs.lemmas.List.{take-take}
use Rattle.writer.specs.Meaning.{WriteMeans}
use Rattle.writer.specs.declared.answer.WriteAnswer.{WriteAnswer}
use Rattle.writer.specs.declared.answer.WriteAnswer.TheVariants.{Took, NotYet as WriteNotYet, Failed}
use Rattle.planned_writer.specs.declared.plan.PlanEntry.{PlanEntry}
use Rattle.planned_writer.specs.declared.plan.PlanEntry.TheVariants.{AtMost, NotYet, Fail}
use Rattle.planned_writer.specs.Planned.{PlannedView, PlannedWrites}

-- what an answer means of the part handed down it means of the whole part
pub whole_means : (t : List ℕ) (c k : ℕ) (part : List ℕ) (r : WriteAnswer) (t' : List ℕ) (c' : ℕ) → WriteMeans t c (take k part) r t' c' → WriteMeans t c part r t' c'
whole_means t c k part (Took n) t' c' m =
    let within : n ≤ min k (length part) = rw length-take at m.within in
    record { within = omega arith; bytes = m.bytes ∙ ap (λ l. t ++ l) (take-take n k part (omega arith)); count = m.count }
whole_means t c k part WriteNotYet t' c' m = m
whole_means t c k part (Failed f) t' c' m = m

pub planned_wrote :
    {V : Type 0} {taken : V → List ℕ} {covered : V → ℕ} {writes : V → List ℕ → WriteAnswer → V → Type 0} →
    ((a b : V) (part : List ℕ) (r : WriteAnswer) → writes a part r b → WriteMeans (taken a) (covered a) part r (taken b) (covered b)) →
    (plan : List PlanEntry) (a b : PlannedView V) (part : List ℕ) (r : WriteAnswer) → PlannedWrites writes plan a part r b → WriteMeans (taken a.below) (covered a.below) part r (taken b.below) (covered b.below)
planned_wrote law [] a b part r w = law a.below b.below part r w.told
planned_wrote {taken = taken} {covered = covered} law (AtMost k ∷ rest) a b part r w =
    whole_means (taken a.below) (covered a.below) k part r (taken b.below) (covered b.below) (law a.below b.below (take k part) r w.told)
planned_wrote {taken = taken} {covered = covered} law (NotYet ∷ rest) a b part r w =
    rw w.told (record { bytes = ap (λ v. taken v.below) w.left; count = ap (λ v. covered v.below) w.left })
planned_wrote {taken = taken} {covered = covered} law (Fail code ∷ rest) a b part r w =
    rw w.told (record { bytes = ap (λ v. taken v.below) w.left; count = ap (λ v. covered v.below) w.left })
