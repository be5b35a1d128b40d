-- The text of answers. Assumes nothing.
--   answer_text          the text that is printed of an answer
--   answer_lines         the text that is printed of some answers: a newline stands after each
--   OneLine              no newline stands in the text
--   AnswersAreLines      each answer's text, with a newline after it, is one line of what is printed
--   AnswersAreTheLines   the lines of what is printed of some answers are their texts
use Rattle.std.specs.Prelude.{◌≡◌, ℕ, List, [], ◌∷◌, ◌++◌, codes, decimal, ◌≢◌, map, flat_map}
use Rattle.std.specs.List.{AllByRecursion}
use Rattle.writer.specs.declared.answer.Fault.TheVariants.{WriteZero, Device}
use Rattle.script.specs.Lines.{lines}
use Rattle.answers.specs.declared.answer.Answer.{Answer}
use Rattle.answers.specs.declared.answer.Answer.TheVariants.{Accepted, Count, Done, Wait, Finished, Moved, Flushed, Idle, Stopped, Failed, Refused, Fault, Misfit}

abbrev pub answer_text : Answer → List ℕ
answer_text Accepted = codes "ok"
answer_text (Count count) = decimal count
answer_text Done = codes "done"
answer_text Wait = codes "wait"
answer_text (Finished count) = codes "finished " ++ decimal count
answer_text (Moved count) = codes "moved " ++ decimal count
answer_text Flushed = codes "flushed"
answer_text Idle = codes "idle"
answer_text Stopped = codes "stopped"
answer_text Failed = codes "failed"
answer_text (Refused reason) = codes "e " ++ decimal reason
answer_text (Fault WriteZero) = codes "e 20 zero"
answer_text (Fault (Device code)) = codes "e 20 d " ++ decimal code
answer_text Misfit = codes "?"

abbrev pub answer_lines : List Answer → List ℕ
answer_lines answers = flat_map (λ answer. answer_text answer ++ 10 ∷ []) answers

abbrev pub OneLine : List ℕ → Type 0
OneLine text = AllByRecursion (λ b. b ≢ 10) text

abbrev pub AnswersAreLines : Type 0
AnswersAreLines = (answer : Answer) → OneLine (answer_text answer) × ((rest : List ℕ) → lines (answer_text answer ++ (10 ∷ rest)) ≡ answer_text answer ∷ lines rest)

abbrev pub AnswersAreTheLines : Type 0
AnswersAreTheLines = (answers : List Answer) → lines (answer_lines answers) ≡ map answer_text answers
