-- What a planned writer answers, by the entries left of its plan. Assumes nothing.
--   PlannedView      the entries left, how many were ever planned, and what stands below
--   planned_view     the view of a planned writer, with the writer itself below
--   view_below       the same with a view of the writer below
--   unplanned        no entry was planned yet
--   appended         one more entry at the end
--   with_next        one more entry at the front
--   most_entries     how many entries are ever planned at most
--   refusal_number   the number of the refusal of one more entry
--   ByPlan           the entry gives the answer, and the writer below stays as it was
--   ByBelow          the writer below gives the answer
--   PlannedWrites    a write: by the next entry, or handed down when none is left
--   PlannedFlushes   the same of a flush
use Rattle.std.specs.Prelude.{◌≡◌, ℕ, ◌+◌, List, [], ◌∷◌, ◌++◌, take, drop}
use Rattle.arrayvec.specs.ArrayVec.{array_vec_len}
use Rattle.writer.specs.declared.answer.Fault.TheVariants.{Device}
use Rattle.writer.specs.declared.answer.WriteAnswer.{WriteAnswer}
use Rattle.writer.specs.declared.answer.WriteAnswer.TheVariants.{NotYet as WriteNotYet, Failed as WriteFailed}
use Rattle.writer.specs.declared.answer.FlushAnswer.{FlushAnswer}
use Rattle.writer.specs.declared.answer.FlushAnswer.TheVariants.{NotYet as FlushNotYet, Failed as FlushFailed}
use Rattle.planned_writer.specs.declared.plan.PlanEntry.{PlanEntry}
use Rattle.planned_writer.specs.declared.plan.PlanEntry.TheVariants.{AtMost, NotYet, Fail}
use Rattle.planned_writer.specs.declared.planned.PlanFull.{PlanFull}
use Rattle.planned_writer.specs.declared.planned.PlannedWriter.{PlannedWriter}

pub record PlannedView (V : Type 0) : Type 0 where
  pub plan : List PlanEntry
  pub planned : ℕ
  pub below : V

abbrev pub planned_view : {W : Type 0} → PlannedWriter W → PlannedView W
planned_view p = record { plan = drop p.spent p.entries.items; planned = array_vec_len p.entries; below = p.inner }

abbrev pub view_below : {W V : Type 0} → (W → V) → PlannedView W → PlannedView V
view_below view v = record { plan = v.plan; planned = v.planned; below = view v.below }

abbrev pub unplanned : {V : Type 0} → V → PlannedView V
unplanned below = record { plan = []; planned = 0; below = below }

abbrev pub appended : {V : Type 0} → PlanEntry → PlannedView V → PlannedView V
appended entry v = record { plan = v.plan ++ entry ∷ []; planned = v.planned + 1; below = v.below }

abbrev pub with_next : {V : Type 0} → PlanEntry → PlannedView V → PlannedView V
with_next entry v = record { plan = entry ∷ v.plan; planned = v.planned; below = v.below }

abbrev pub most_entries : ℕ
most_entries = 32

abbrev pub refusal_number : PlanFull → ℕ
refusal_number refusal = 3

pub record ByPlan {V R : Type 0} (a : PlannedView V) (rest : List PlanEntry) (answer r : R) (b : PlannedView V) : Type 0 where
  pub told : r ≡ answer
  pub left : b ≡ record { plan = rest; planned = a.planned; below = a.below }

pub record ByBelow {V : Type 0} (a : PlannedView V) (rest : List PlanEntry) (answers : V → V → Type 0) (b : PlannedView V) : Type 0 where
  pub told : answers a.below b.below
  pub left : b ≡ record { plan = rest; planned = a.planned; below = b.below }

module _ {V : Type 0} where
  abbrev pub PlannedWrites : (V → List ℕ → WriteAnswer → V → Type 0) → List PlanEntry → PlannedView V → List ℕ → WriteAnswer → PlannedView V → Type 0
  PlannedWrites writes [] a part r b = ByBelow a [] (λ v w. writes v part r w) b
  PlannedWrites writes (AtMost k ∷ rest) a part r b = ByBelow a rest (λ v w. writes v (take k part) r w) b
  PlannedWrites writes (NotYet ∷ rest) a part r b = ByPlan a rest WriteNotYet r b
  PlannedWrites writes (Fail code ∷ rest) a part r b = ByPlan a rest (WriteFailed (Device code)) r b

  abbrev pub PlannedFlushes : (V → FlushAnswer → V → Type 0) → List PlanEntry → PlannedView V → FlushAnswer → PlannedView V → Type 0
  PlannedFlushes flushes [] a r b = ByBelow a [] (λ v w. flushes v r w) b
  PlannedFlushes flushes (AtMost k ∷ rest) a r b = ByBelow a rest (λ v w. flushes v r w) b
  PlannedFlushes flushes (NotYet ∷ rest) a r b = ByPlan a rest FlushNotYet r b
  PlannedFlushes flushes (Fail code ∷ rest) a r b = ByPlan a rest (FlushFailed (Device code)) r b
