-- A text split at its first mark, and its first line. Assumes nothing.
use Rattle.std.proofs.Common.{subst, ◌≡◌, ℕ, suc, ◌+◌, ◌<◌, ◌==◌, ⊎_elim, nat_lt, position, Bool, true, false, cond, eqb, List, [], ◌∷◌, length, take, drop, Some, None, Option, sym, refl, ap, ◌∙◌, add-one, arith, Bor, MatchOption}
use Rattle.std.proofs.lemmas.Option.{MatchOption-at_some, MatchOption-at_none}
use Rattle.std.proofs.lemmas.Slice.{between_to_end}
use Rattle.std.proofs.lemmas.Bool.{cases_Bool, lt-ltb}
use Rattle.std.proofs.lemmas.Bool.Decides.{nat_tests}
use Rattle.std.specs.List.{between, position_or_len}
use Rattle.std.specs.Option.{option_map, unwrap_or}
use Rattle.script.specs.Lines.{Parts, parts, split_at_mark, lines, onto, FirstLine}

-- the parts where the first mark stands at i
abbrev cut : List ℕ → ℕ → Parts
cut text i = (take i text, drop (i + 1) text)

cut_later : (b : ℕ) (bs : List ℕ) (at : ℕ) (found : Bool) → option_map (cut (b ∷ bs)) (cond found (Some (1 + at)) None) ≡ option_map (λ p. (b ∷ p.0, p.1)) (option_map (cut bs) (cond found (Some at) None))
cut_later b bs at true = let e : 1 + at ≡ suc at = omega arith in rw (e, add-one, add-one) refl
cut_later b bs at false = refl

split_at_position : (m : ℕ) (text : List ℕ) → option_map (cut text) (position (λ b. b == m) text) ≡ split_at_mark m text
split_at_position m [] = refl
split_at_position m (b ∷ bs) =
    let at = position_or_len (λ c. c == m) bs in
    let ih = split_at_position m bs in
    ⊎_elim
    (λ (mark : (b == m) ≡ true). rw (mark, lt-ltb 0 (length (b ∷ bs)) (omega arith)) refl)
    (λ (other : (b == m) ≡ false).
    let later : nat_lt (1 + at) (length (b ∷ bs)) ≡ nat_lt at (length bs) = grind (arith, nat_tests) in
    rw (other, later, ← ih) (cut_later b bs at _))
    (cases_Bool (b == m))

-- the parts as slices of the text
pub split_at : (m : ℕ) (text : List ℕ) (r : Option ℕ) → r ≡ position (λ b. b == m) text → option_map (λ i. (take i text, between (i + 1) (length text) text)) r ≡ split_at_mark m text
split_at m text None e = ap (option_map _) e ∙ split_at_position m text
split_at m text (Some i) e =
    rw (between_to_end text (i + 1) (length text) (omega arith)) (ap (option_map _) e ∙ split_at_position m text)

first_line_longer : (c : ℕ) (cs : List ℕ) (is_newline : Bool) (split : Option Parts) → MatchOption split (0 < length cs → FirstLine cs cs []) (λ p. FirstLine cs p.0 p.1) → lines (c ∷ cs) ≡ cond is_newline ([] ∷ lines cs) (onto c (lines cs)) → MatchOption {T = Parts} (cond is_newline (Some ([], cs)) (option_map (λ p. (c ∷ p.0, p.1)) split)) (0 < length (c ∷ cs) → FirstLine (c ∷ cs) (c ∷ cs) []) (λ p. FirstLine (c ∷ cs) p.0 p.1)
first_line_longer c cs true split h e = record { value = e; rest = refl; shorter = omega arith }
first_line_longer c [] false None h e = λ some. record { value = e; rest = refl; shorter = omega arith }
first_line_longer c (d ∷ ds) false None h e = λ some.
    let all = h (omega arith) in
    record { value = e ∙ ap (onto c) all.value; rest = rw add-one (rw add-one at all.rest); shorter = omega arith }
first_line_longer c cs false (Some p) h e = record {
  value = e ∙ ap (onto c) h.value;
  rest = rw add-one (rw add-one at h.rest);
  shorter = omega (arith, h.shorter);
}

pub first_line : (text : List ℕ) → MatchOption (split_at_mark 10 text) (0 < length text → FirstLine text text []) (λ p. FirstLine text p.0 p.1)
first_line [] = λ some. absurd (omega arith)
first_line (c ∷ cs) = first_line_longer c cs (eqb c 10) (split_at_mark 10 cs) (first_line cs) refl

pub first_or_all : (text : List ℕ) (ended : Option (Bor (List ℕ) × Bor (List ℕ))) (all : Bor (List ℕ) × Bor (List ℕ)) → option_map parts ended ≡ split_at_mark 10 text → 0 < length text → parts all ≡ (text, []) → let line = unwrap_or ended all in FirstLine text line.0.now line.1.now
first_or_all text None all e some whole =
    subst (λ p. FirstLine text p.0 p.1) (sym whole) (MatchOption-at_none _ _ (sym e) (first_line text) some)
first_or_all text (Some p) all e some whole = MatchOption-at_some _ _ _ (sym e) (first_line text)
