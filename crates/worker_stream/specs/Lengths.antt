-- The sum of a list of lengths, by its head: std's `sum` folds from the left. Assumes nothing.
--   sum_of   the sum
use Rattle.std.specs.Prelude.{ℕ, ◌+◌, List, [], ◌∷◌}

abbrev pub sum_of : List ℕ → ℕ
sum_of [] = 0
sum_of (n ∷ ns) = n + sum_of ns
