-- The lines of a text, and its parts at a mark. Assumes nothing.
--   Parts           two parts of a text, in their order
--   parts           the bytes that two references point to
--   split_at_mark   what stands before the first mark and after it, where there is one
--   onto            a byte put in front of the first line
--   lines           the lines, each without its newline; a newline at the end adds no line
--   FirstLine       the first line of a text, and what is left after its newline
use Rattle.std.specs.Prelude.{◌≡◌, ℕ, ◌+◌, ◌<◌, cond, List, [], ◌∷◌, length, drop, Some, None, Option, ◌==◌}
use Rattle.std.specs.Borrow.{Bor}
use Rattle.std.specs.Option.{option_map}

abbrev pub Parts : Type 0
Parts = List ℕ × List ℕ

abbrev pub parts : Bor (List ℕ) × Bor (List ℕ) → Parts
parts p = (p.0.now, p.1.now)

abbrev pub split_at_mark : ℕ → List ℕ → Option Parts
split_at_mark mark [] = None
split_at_mark mark (b ∷ bs) = cond (b == mark) (Some ([], bs)) (option_map (λ p. (b ∷ p.0, p.1)) (split_at_mark mark bs))

abbrev pub onto : ℕ → List (List ℕ) → List (List ℕ)
onto b [] = (b ∷ []) ∷ []
onto b (first ∷ more) = (b ∷ first) ∷ more

abbrev pub lines : List ℕ → List (List ℕ)
lines [] = []
lines (b ∷ bs) = cond (b == 10) ([] ∷ lines bs) (onto b (lines bs))

pub record FirstLine (text line left : List ℕ) : Type 0 where
  pub value : lines text ≡ line ∷ lines left
  pub rest : left ≡ drop (length line + 1) text
  pub shorter : length left < length text
