-- The text of an answer is one line. Assumes nothing.
use Rattle.std.proofs.Common.{◌≡◌, ℕ, zero, suc, ◌+◌, ◌/◌, ◌%◌, false, eqb, ltb, List, [], ◌∷◌, ◌++◌, codes, decimal, rules, ◌≢◌, refl, ap, ◌∙◌, append_assoc, arith, ne_eqb}
use Rattle.std.proofs.ByRecursion.{All-append}
use Rattle.std.proofs.lemmas.Bool.{cond_both}
use Rattle.std.specs.Fmt.{digits, digits_onto, digit_glyph}
use Rattle.writer.specs.declared.answer.Fault.TheVariants.{WriteZero, Device}
use Rattle.answers.specs.declared.answer.Answer.{Answer}
use Rattle.answers.specs.declared.answer.Answer.TheVariants.{Accepted, Count, Done, Wait, Finished, Moved, Flushed, Idle, Stopped, Failed, Refused, Fault, Misfit}
use Rattle.answers.specs.Answers.{answer_text, answer_lines, OneLine, AnswersAreLines, AnswersAreTheLines}
use Rattle.script.specs.Lines.{lines}

glyph_not_newline : (d : ℕ) → digit_glyph false d ≢ 10
glyph_not_newline d = cond_both (ltb d 10) (48 + d) (87 + d) (λ b. b ≢ 10) (λ e h. omega arith) (λ e h. omega arith)

spelled_one_line : (k n : ℕ) (text : List ℕ) → OneLine text → OneLine (digits_onto k 10 false n text)
spelled_one_line zero n text h = h
spelled_one_line (suc k) n text h =
    let longer : OneLine (digit_glyph false (n % 10) ∷ text) = (glyph_not_newline (n % 10), h) in
    cond_both (eqb (n / 10) 0) _ _ OneLine (λ e. longer) (λ e. spelled_one_line k (n / 10) _ longer)

-- of any number: the library's lemma on its digits asks for one below 2 ^ 64
decimal_one_line : (n : ℕ) → OneLine (decimal n)
unfolding digits
decimal_one_line n = spelled_one_line 64 n [] tt

word_and_number : (word : List ℕ) (n : ℕ) → OneLine word → OneLine (word ++ decimal n)
word_and_number word n e = All-append (λ b. b ≢ 10) word (decimal n) e (decimal_one_line n)

answer_one_line : (answer : Answer) → OneLine (answer_text answer)
answer_one_line (Count count) = decimal_one_line count
answer_one_line (Finished count) = word_and_number (codes "finished ") count (search rules)
answer_one_line (Moved count) = word_and_number (codes "moved ") count (search rules)
answer_one_line (Refused reason) = word_and_number (codes "e ") reason (search rules)
answer_one_line (Fault (Device code)) = word_and_number (codes "e 20 d ") code (search rules)
answer_one_line (Fault WriteZero) = search rules
answer_one_line Accepted = search rules
answer_one_line Done = search rules
answer_one_line Wait = search rules
answer_one_line Flushed = search rules
answer_one_line Idle = search rules
answer_one_line Stopped = search rules
answer_one_line Failed = search rules
answer_one_line Misfit = search rules

line_then_lines : (text rest : List ℕ) → OneLine text → lines (text ++ (10 ∷ rest)) ≡ text ∷ lines rest
line_then_lines [] rest h = refl
line_then_lines (b ∷ bs) rest h =
    let ih = line_then_lines bs rest h.1 in
    rw (ne_eqb b 10 h.0, ih)

pub answers_are_lines : AnswersAreLines
answers_are_lines answer = (answer_one_line answer, λ rest. line_then_lines (answer_text answer) rest (answer_one_line answer))

pub answers_are_the_lines : AnswersAreTheLines
answers_are_the_lines [] = refl
answers_are_the_lines (answer ∷ more) =
    ap lines (append_assoc (answer_text answer) (10 ∷ []) (answer_lines more)) ∙ (answers_are_lines answer).1 (answer_lines more) ∙ ap (λ ls. answer_text answer ∷ ls) (answers_are_the_lines more)
