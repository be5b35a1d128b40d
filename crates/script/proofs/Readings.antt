-- What the digits of a number say. Assumes nothing.
use Rattle.std.proofs.Common.{◌≡◌, ℕ, ◌+◌, ◌-◌, ◌*◌, ◌^◌, ◌<◌, ◌≤◌, true, false, cond, List, length, get_or, take, Some, None, Option, sym, refl, ap, ◌∙◌, subst, ⊎_elim, arith, length-take-le}
use Rattle.std.proofs.lemmas.Int.Digits.{digits_more, digits_value_more}
use Rattle.std.proofs.lemmas.List.{take_all}
use Rattle.std.proofs.lemmas.Str.Parse.{IsNumeralModel, numerals_by_value, tells_all_ascii_digits, digit_at, digits_value_short}
use Rattle.std.proofs.lemmas.Bool.{le-leb, cases_Bool, and_from, cond-true, cond-false, both_ways}
use Rattle.std.proofs.lemmas.Bool.Decides.{nat_tests}
use Rattle.std.specs.Str.Parse.{AllDigits, digits_value}
use Rattle.std.specs.Char.{is_ascii_digit, digit_value as value_of_digit}
use Rattle.std.specs.Str.{all_ascii_digits}
use Rattle.script.specs.Numbers.{number}

numerals : IsNumeralModel (λ ds. all_ascii_digits ds ≡ true) (digits_value 10)
numerals = numerals_by_value _ tells_all_ascii_digits

digit_value : (c : ℕ) → is_ascii_digit c ≡ true → value_of_digit c ≡ c - 48
digit_value c h = grind (arith, nat_tests)

digit_small : (c : ℕ) → is_ascii_digit c ≡ true → value_of_digit c < 10
digit_small c h = grind (arith, nat_tests)

-- the first i bytes are digits, which write n
pub record Read (text : List ℕ) (i n : ℕ) : Type 0 where
  pub digits : AllDigits 10 (take i text)
  pub is : n ≡ digits_value 10 (take i text)

pub read_none : (text : List ℕ) → Read text 0 0
read_none text = record { digits = tt; is = refl }

pub read_more : (text : List ℕ) (i n v : ℕ) → i < length text → Read text i n → is_ascii_digit (get_or text i 0) ≡ true → v ≡ get_or text i 0 - 48 → Read text (i + 1) (10 * n + v)
read_more text i n v h so d e = record {
  digits = digits_more 10 text i h so.digits (digit_small (get_or text i 0) d);
  is = rw (digits_value_more 10 text i h, digit_value (get_or text i 0) d) (omega (arith, so.is));
}

pub read_small : (text : List ℕ) (i n : ℕ) → i < 9 → i < length text → Read text i n → n < 10 ^ 9
read_small text i n short h so =
    omega (arith, so.is, digits_value_short numerals (take i text) 9 (numerals.from (take i text) so.digits) (omega (arith, length-take-le i text (omega arith))))

-- the number of a text of digits
abbrev pub text_value : List ℕ → Option ℕ
text_value text = cond (all_ascii_digits text) (Some (digits_value 10 text)) None

text_value_digits : (text : List ℕ) → AllDigits 10 text → text_value text ≡ Some (digits_value 10 text)
text_value_digits text digits = cond-true _ _ _ (numerals.from text digits)

pub value_of_digits : (text : List ℕ) (i n : ℕ) → length text ≤ i → Read text i n → Some n ≡ text_value text
value_of_digits text i n all so =
    let whole = take_all i text all in
    ap (λ (x : ℕ). Some x) (so.is ∙ ap (digits_value 10) whole) ∙ sym (text_value_digits text (subst (AllDigits 10) whole so.digits))

pub none_without_digits : (text : List ℕ) (i : ℕ) → i < length text → is_ascii_digit (get_or text i 0) ≡ false → None ≡ text_value text
none_without_digits text i h d =
    ⊎_elim
    (λ all. let digit = digit_at text i (numerals.to text all) h in absurd (both_ways (is_ascii_digit (get_or text i 0)) d (grind (arith, nat_tests))))
    (λ other. sym (cond-false _ _ _ other))
    (cases_Bool (all_ascii_digits text))

pub number_digits : (text : List ℕ) → 0 < length text → length text ≤ 9 → AllDigits 10 text → number text ≡ Some (digits_value 10 text)
number_digits text some short digits =
    cond-true _ _ _ (and_from _ _ (and_from _ _ (le-leb 1 (length text) (omega arith)) (le-leb (length text) 9 short)) (numerals.from text digits))
