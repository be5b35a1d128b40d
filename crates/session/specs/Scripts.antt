-- What a whole script prints. Assumes nothing.
--   Played          the lines after a good first line: their calls are run, and each line prints what was said or what its call answered
--   NotBegun        the one answer of a script whose first line gives no limits, or limits that are refused
--   ScriptAnswers   a whole script, by its lines
--   NotRefused      the first line gives limits that are not refused
--   OneEach         after a good first line each line has exactly one answer
--   ScriptPrints    the text that a script prints: its answers, with a newline after each
use Rattle.std.specs.Prelude.{◌≡◌, ℕ, List, [], ◌∷◌, length, Some, None, Option}
use Rattle.memory_writers.specs.Stores.{MemoryWrites, AreaFlushes}
use Rattle.planned_writer.specs.Planned.{PlannedWrites, PlannedFlushes}
use Rattle.stream.specs.declared.limits.refusal.LimitsError.{LimitsError}
use Rattle.stream.specs.LimitsRules.{refusal, number}
use Rattle.worker_stream.specs.WorkerView.{WorkerView}
use Rattle.promises.specs.SharedView.{SharedView}
use Rattle.calls.specs.declared.answer.Answer.{Answer as Reply}
use Rattle.calls.specs.Running.{Ran}
use Rattle.answers.specs.Answers.{answer_lines}
use Rattle.answers.specs.declared.answer.Answer.{Answer}
use Rattle.answers.specs.declared.answer.Answer.TheVariants.{Refused, Misfit}
use Rattle.script.specs.Parsing.{limits}
use Rattle.script_reading.specs.Reading.{WriterView, Read, unread, lines_read}
use Rattle.session.specs.Merging.{merged}

pub record Played (budget handles : ℕ) (read : Read) (answers : List Answer) : Type 0 where
  pub replies : List Reply
  pub left : SharedView (WorkerView WriterView)
  pub ran : Ran (λ w. w.below.taken) (λ w. w.below.covered) (λ a part r b. PlannedWrites MemoryWrites a.plan a part r b) (λ a r b. PlannedFlushes AreaFlushes a.plan a r b) budget handles read.writer read.calls replies left
  pub printed : answers ≡ merged read.slots replies

abbrev pub PlayedIf : Option LimitsError → ℕ → ℕ → List (List ℕ) → List Answer → Type 0
PlayedIf (Some e) budget handles more answers = answers ≡ Refused (number e) ∷ []
PlayedIf None budget handles more answers = Played budget handles (lines_read unread more) answers

abbrev pub AfterFirst : Option (ℕ × ℕ) → List (List ℕ) → List Answer → Type 0
AfterFirst None more answers = answers ≡ Misfit ∷ []
AfterFirst (Some (budget, handles)) more answers = PlayedIf (refusal budget handles) budget handles more answers

abbrev pub RefusedIf : Option LimitsError → Answer → Type 0
RefusedIf None answer = ⊥
RefusedIf (Some e) answer = answer ≡ Refused (number e)

abbrev pub NotBegun : Option (ℕ × ℕ) → Answer → Type 0
NotBegun None answer = answer ≡ Misfit
NotBegun (Some (budget, handles)) answer = RefusedIf (refusal budget handles) answer

abbrev pub ScriptAnswers : List (List ℕ) → List Answer → Type 0
ScriptAnswers [] answers = answers ≡ Misfit ∷ []
ScriptAnswers (first ∷ more) answers = AfterFirst (limits first) more answers

abbrev pub NotRefused : Option (ℕ × ℕ) → Type 0
NotRefused None = ⊥
NotRefused (Some (budget, handles)) = refusal budget handles ≡ None

abbrev pub OneEach : List (List ℕ) → List Answer → Type 0
OneEach [] answers = length answers ≡ 1
OneEach (first ∷ more) answers = NotRefused (limits first) → length answers ≡ length more

pub record ScriptPrints (ls : List (List ℕ)) (text : List ℕ) : Type 0 where
  pub answers : List Answer
  pub answered : ScriptAnswers ls answers
  pub each : OneEach ls answers
  pub printed : text ≡ answer_lines answers
