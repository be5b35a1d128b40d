-- How a line is read as a command. Assumes nothing.
--   past_blank        what follows a blank
--   alone             a command that is its letter alone
--   argument          one number after a blank, and nothing else
--   handle_write_of   a handle's number between blanks, and then the bytes
--   letter            the byte of a text that is one letter
--   Form              what a command reads from the rest of its line
--   forms             each letter with its form
--   form_of           the form of a letter, or None where the letter has none
--   parsed            the command of a line, or None where the line is a misfit
--   limits            the two numbers of the first line: budget and handles
--   ParsesBack        the canonical text of a command is read as that command
use Rattle.std.specs.Prelude.{◌≡◌, ℕ, cond, List, [], ◌∷◌, Some, None, codes, Option, ◌==◌, slice_index}
use Rattle.std.specs.Option.{option_map, option_and_then}
use Rattle.planned_writer.specs.declared.plan.PlanEntry.TheVariants.{AtMost, NotYet, Fail}
use Rattle.handles.specs.Calls.{writes, checks, flushes, cancels, turns, polls_write, polls_flush, drops}
use Rattle.script.specs.Commands.{CommandView, call, plan, canonical, Plain}
use Rattle.script.specs.Lines.{split_at_mark}
use Rattle.script.specs.Numbers.{number, at_most}

abbrev pub past_blank : List ℕ → Option (List ℕ)
past_blank [] = None
past_blank (b ∷ bs) = cond (b == 32) (Some bs) None

abbrev pub alone : CommandView → List ℕ → Option CommandView
alone command [] = Some command
alone command (b ∷ bs) = None

abbrev pub argument : List ℕ → Option ℕ
argument rest = option_and_then number (past_blank rest)

abbrev pub handle_write_of : List ℕ → Option CommandView
handle_write_of rest = option_and_then (λ text. option_and_then (λ p. option_map (λ handle. call (polls_write handle p.1)) (number p.0)) (split_at_mark 32 text)) (past_blank rest)

abbrev pub letter : List ℕ → ℕ
letter text = slice_index text 0

abbrev pub Form : Type 0
Form = List ℕ → Option CommandView

abbrev pub forms : List (ℕ × Form)
forms =
    (letter (codes "w"), λ rest. option_map (λ bytes. call (writes bytes)) (past_blank rest))
    ∷ (letter (codes "c"), alone (call checks))
    ∷ (letter (codes "f"), alone (call flushes))
    ∷ (letter (codes "x"), alone (call cancels))
    ∷ (letter (codes "t"), alone (call turns))
    ∷ (letter (codes "W"), handle_write_of)
    ∷ (letter (codes "F"), λ rest. option_map (λ handle. call (polls_flush handle)) (argument rest))
    ∷ (letter (codes "D"), λ rest. option_map (λ handle. call (drops handle)) (argument rest))
    ∷ (letter (codes "p"), λ rest. option_map (λ most. plan (AtMost most)) (at_most 4096 (argument rest)))
    ∷ (letter (codes "q"), alone (plan NotYet))
    ∷ (letter (codes "r"), λ rest. option_map (λ code. plan (Fail code)) (at_most 255 (argument rest)))
    ∷ []

abbrev pub form_of : List (ℕ × Form) → ℕ → Form
form_of [] b rest = None
form_of (form ∷ more) b rest = cond (b == form.0) (form.1 rest) (form_of more b rest)

abbrev pub parsed : List ℕ → Option CommandView
parsed [] = None
parsed (b ∷ rest) = form_of forms b rest

abbrev pub limits : List ℕ → Option (ℕ × ℕ)
limits line = option_and_then (λ p. option_and_then (λ budget. option_map (λ handles. (budget, handles)) (number p.1)) (number p.0)) (split_at_mark 32 line)

abbrev pub ParsesBack : CommandView → Type 0
ParsesBack command = Plain command → parsed (canonical command) ≡ Some command
