-- Which limits are refused, and by which number. Assumes nothing.
--   refusal   the refusal of a budget and a count of handles, if there is one
--   number    the number of a refusal
use Rattle.std.specs.Prelude.{ℕ, ◌&&◌, [], ◌∷◌, Option, nat_le}
use Rattle.stream.specs.declared.limits.refusal.LimitsError.{LimitsError}
use Rattle.stream.specs.declared.limits.refusal.LimitsError.TheVariants.{BudgetTooLarge, HandlesOutOfRange}
use Rattle.stream.specs.Questions.{asks, first_no}

abbrev pub refusal : ℕ → ℕ → Option LimitsError
refusal budget handles = first_no (asks (nat_le budget 4096) BudgetTooLarge ∷ asks (nat_le 1 handles && nat_le handles 16) HandlesOutOfRange ∷ [])

abbrev pub number : LimitsError → ℕ
number BudgetTooLarge = 1
number HandlesOutOfRange = 2
