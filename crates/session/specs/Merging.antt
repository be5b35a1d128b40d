-- What the lines of a script print, once their calls are answered. Assumes nothing.
--   merged   what was said when a line was read, and the replies in their order
use Rattle.std.specs.Prelude.{List, [], ◌∷◌, Some, None, Option}
use Rattle.calls.specs.declared.answer.Answer.{Answer as Reply}
use Rattle.answers.specs.declared.answer.Answer.{Answer}
use Rattle.answers.specs.declared.answer.Answer.TheVariants.{Misfit}
use Rattle.answers.specs.Printing.{printed}

abbrev pub merged : List (Option Answer) → List Reply → List Answer
merged [] replies = []
merged (Some a ∷ slots) replies = a ∷ merged slots replies
merged (None ∷ slots) [] = Misfit ∷ merged slots []
merged (None ∷ slots) (reply ∷ replies) = printed reply ∷ merged slots replies
