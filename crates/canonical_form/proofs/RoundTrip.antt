-- The canonical text of a command is read as that command. Assumes nothing.
use Rattle.std.proofs.Common.{◌≡◌, ℕ, ◌^◌, ◌<◌, ◌≤◌, List, [], ◌∷◌, ◌++◌, Some, decimal, refl, ap, ◌∙◌, arith, ne_eqb, le-leb}
use Rattle.std.proofs.lemmas.Fmt.{decimal_is_IsNumeral, length-decimal-le}
use Rattle.std.proofs.lemmas.Str.Parse.{digit_from_value}
use Rattle.std.specs.Option.{option_map, option_and_then}
use Rattle.std.specs.Str.Parse.{AllDigits}
use Rattle.planned_writer.specs.declared.plan.PlanEntry.TheVariants.{AtMost, NotYet, Fail}
use Rattle.handles.specs.Calls.{writes, checks, flushes, cancels, turns, polls_write, polls_flush, drops}
use Rattle.script.specs.Commands.{CommandView, call, plan}
use Rattle.script.specs.Lines.{split_at_mark}
use Rattle.script.specs.Numbers.{number, at_most}
use Rattle.script.specs.Parsing.{ParsesBack}
use Rattle.script.proofs.Readings.{number_digits}

number_decimal : (n : ℕ) → n < 10 ^ 9 → number (decimal n) ≡ Some n
number_decimal n small =
    let reads = decimal_is_IsNumeral n (omega arith) in
    number_digits (decimal n) reads.0.0 (length-decimal-le 9 n (omega arith) small (omega arith)) reads.0.1 ∙ ap (λ (x : ℕ). Some x) reads.1

at_most_decimal : (limit n : ℕ) → limit < 10 ^ 9 → n ≤ limit → at_most limit (number (decimal n)) ≡ Some n
at_most_decimal limit n small h = ap (at_most limit) (number_decimal n (omega arith)) ∙ rw (le-leb n limit h)

split_after_digits : (ds bs : List ℕ) → AllDigits 10 ds → split_at_mark 32 (ds ++ (32 ∷ bs)) ≡ Some (ds, bs)
split_after_digits [] bs digits = refl
split_after_digits (d ∷ ds) bs digits =
    let range = digit_from_value d digits.0 in
    let ih = split_after_digits ds bs digits.1 in
    rw (ne_eqb d 32 (λ e. omega arith), ih)

pub parses_back : (command : CommandView) → ParsesBack command
parses_back (call (writes bytes)) plain = refl
parses_back (call checks) plain = refl
parses_back (call flushes) plain = refl
parses_back (call cancels) plain = refl
parses_back (call turns) plain = refl
parses_back (call (polls_write handle bytes)) plain =
    let parts = split_after_digits (decimal handle) bytes (decimal_is_IsNumeral handle (omega arith)).0.1 in
    ap (option_and_then (λ p. option_map (λ n. call (polls_write n p.1)) (number p.0))) parts
    ∙ ap (option_map (λ n. call (polls_write n bytes))) (number_decimal handle plain)
parses_back (call (polls_flush handle)) plain = ap (option_map (λ n. call (polls_flush n))) (number_decimal handle plain)
parses_back (call (drops handle)) plain = ap (option_map (λ n. call (drops n))) (number_decimal handle plain)
parses_back (plan (AtMost most)) plain = ap (option_map (λ n. plan (AtMost n))) (at_most_decimal 4096 most (omega arith) plain)
parses_back (plan NotYet) plain = refl
parses_back (plan (Fail code)) plain = ap (option_map (λ n. plan (Fail n))) (at_most_decimal 255 code (omega arith) plain)
