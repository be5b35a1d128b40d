-- The questions before a call. They are asked in order, and the first no decides. Assumes nothing.
--   asks       a question by its test: no is answered by this refusal
--   first_no   the refusal of the first question that is answered no
--   answered   a call's answer: its value, or the refusal
use Rattle.std.specs.Prelude.{Bool, true, false, List, [], ◌∷◌, Some, None, Ok, Err, Option, Result}

abbrev pub asks : {E : Type 0} → Bool → E → Option E
asks true e = None
asks false e = Some e

abbrev pub first_no : {E : Type 0} → List (Option E) → Option E
first_no [] = None
first_no (None ∷ qs) = first_no qs
first_no (Some e ∷ qs) = Some e

abbrev pub answered : {X E : Type 0} → Option E → X → Result X E
answered None x = Ok x
answered (Some e) x = Err e
