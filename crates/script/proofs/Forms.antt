-- A letter that no form has. Assumes nothing.
use Rattle.std.proofs.Common.{◌≡◌, ℕ, List, [], ◌∷◌, None, sym, refl, ◌∙◌, ne_eqb}
use Rattle.std.proofs.lemmas.Bool.{cond-false}
use Rattle.script.specs.Parsing.{Form, form_of}

-- b is the letter of no form
abbrev pub NoLetter : List (ℕ × Form) → ℕ → Type 0
NoLetter [] b = Unit {0}
NoLetter (form ∷ more) b = (b ≡ form.0 → ⊥) × NoLetter more b

pub none_without_letter : (table : List (ℕ × Form)) (b : ℕ) (rest : List ℕ) → NoLetter table b → None ≡ form_of table b rest
none_without_letter [] b rest other = refl
none_without_letter (form ∷ more) b rest other = none_without_letter more b rest other.1 ∙ sym (cond-false _ _ _ (ne_eqb b form.0 other.0))
