-- Histories, and what can be said of the past by the history alone. Assumes nothing.
--   History             calls with their answers, oldest first
--   ◌▷▷◌                one history after another
--   accepted            the writes accepted, in order; of a handle's write the first bytes, as many as it answered
--   finished_lengths    the lengths that turns told as finished
--   moved               all that turns told as moved since the last finished
--   finished_writes, unfinished_writes, next_write   the accepted writes, by how many turns told as finished
--   Call                a call of a handle that can wait: a write of these bytes, or a flush
--   Asked, asked_in     what an event says of a handle's calls: a poll and whether it was answered, or a drop
--   Unanswered          a call of a handle: from its first not yet until it answers otherwise or its handle is dropped
--   present_flush       if a flush of a handle is in progress: how many writes were accepted when it was first polled
--                       since it was last answered or the handle last wrote bytes
--   began               the same, where a flush that is not in progress begins now
--   Patient             while a call of a handle is unanswered, the handle only repeats it as it began, or is dropped
--   NoCancel            no call was a cancel
--   Polled              some event polls this call of this handle
--   Round               a turn not answered not yet, then a poll of each call that was unanswered at that turn and still is
--   Rounds              so many rounds from one history to another, one after another, any calls between them
--   Between             a history that continues one and is continued by another
--   Waiting             a call unanswered without a break since its first poll, which so many full rounds followed
use Rattle.std.specs.Prelude.{◌≡◌, ℕ, zero, suc, ◌+◌, cond, ◌⊎◌, List, [], ◌∷◌, ◌++◌, length, take, drop, Some, None, Ok, Err, Option, Result, ◌==◌}
use Rattle.worker_stream.specs.StoreView.{oldest}
use Rattle.worker_stream.specs.declared.write_stream.job.Turn.{Turn}
use Rattle.worker_stream.specs.declared.write_stream.job.Turn.TheVariants.{Stopped, Finished, Moved, Flushed, Idle, NotYet, Failed}
use Rattle.handles.specs.Errors.{HandleError}
use Rattle.handles.specs.declared.handle.Poll.{Poll}
use Rattle.handles.specs.declared.handle.Poll.TheVariants.{Ready as Answer, Pending}
use Rattle.promises.specs.Events.{Event, write, check, flush, cancel, turn, handle_write, handle_flush, handle_drop}

infixl 40 ◌▷◌
pub data History : Type 0 where
  start : History
  ◌▷◌ : History → Event → History

infixl 40 ◌▷▷◌
abbrev pub ◌▷▷◌ : History → History → History
es ▷▷ start = es
es ▷▷ (later ▷ e) = (es ▷▷ later) ▷ e

-- the writes that an event accepts: none or one
abbrev pub accepted_by : Event → List (List ℕ)
accepted_by (write bytes (Ok u)) = bytes ∷ []
accepted_by (write bytes (Err e)) = []
accepted_by (check r) = []
accepted_by (flush r) = []
accepted_by cancel = []
accepted_by (turn word) = []
accepted_by (handle_write h bytes (Ok (Answer zero))) = []
accepted_by (handle_write h bytes (Ok (Answer (suc n)))) = take (suc n) bytes ∷ []
accepted_by (handle_write h bytes (Ok Pending)) = []
accepted_by (handle_write h bytes (Err e)) = []
accepted_by (handle_flush h r) = []
accepted_by (handle_drop h r) = []

abbrev pub accepted : History → List (List ℕ)
accepted start = []
accepted (es ▷ e) = accepted es ++ accepted_by e

-- what a turn's word says, and of any other event this
abbrev pub on_turn : {X : Type 0} → Event → (Turn → X) → X → X
on_turn (write bytes r) says other = other
on_turn (check r) says other = other
on_turn (flush r) says other = other
on_turn cancel says other = other
on_turn (turn word) says other = says word
on_turn (handle_write h bytes r) says other = other
on_turn (handle_flush h r) says other = other
on_turn (handle_drop h r) says other = other

abbrev pub finished_in : Turn → List ℕ
finished_in Stopped = []
finished_in (Finished n) = n ∷ []
finished_in (Moved n) = []
finished_in Flushed = []
finished_in Idle = []
finished_in NotYet = []
finished_in Failed = []

abbrev pub finished_lengths : History → List ℕ
finished_lengths start = []
finished_lengths (es ▷ e) = finished_lengths es ++ on_turn e finished_in []

abbrev pub moved_in : ℕ → Turn → ℕ
moved_in m Stopped = m
moved_in m (Finished n) = 0
moved_in m (Moved n) = m + n
moved_in m Flushed = m
moved_in m Idle = m
moved_in m NotYet = m
moved_in m Failed = m

abbrev pub moved : History → ℕ
moved start = 0
moved (es ▷ e) = on_turn e (moved_in (moved es)) (moved es)

abbrev pub finished_writes : History → List (List ℕ)
finished_writes es = take (length (finished_lengths es)) (accepted es)

abbrev pub unfinished_writes : History → List (List ℕ)
unfinished_writes es = drop (length (finished_lengths es)) (accepted es)

abbrev pub next_write : History → List ℕ
next_write es = oldest (unfinished_writes es)

pub data Call : Type 0 where
  writes : List ℕ → Call
  flushes : Call

pub data Reply : Type 0 where
  not_yet : Reply
  answered : Reply

abbrev pub reply : {X : Type 0} → Result (Poll X) HandleError → Reply
reply (Ok (Answer x)) = answered
reply (Ok Pending) = not_yet
reply (Err e) = answered

pub data Asked : Type 0 where
  polled : ℕ → Call → Reply → Asked
  dropped : ℕ → Asked
  nothing : Asked

abbrev pub asked_in : Event → Asked
asked_in (write bytes r) = nothing
asked_in (check r) = nothing
asked_in (flush r) = nothing
asked_in cancel = nothing
asked_in (turn word) = nothing
asked_in (handle_write h bytes r) = polled h (writes bytes) (reply r)
asked_in (handle_flush h r) = polled h flushes (reply r)
asked_in (handle_drop h r) = dropped h

abbrev pub Ends : ℕ → Call → Asked → Type 0
Ends h call a = (a ≡ polled h call answered) ⊎ (a ≡ dropped h)

abbrev pub Unanswered : ℕ → Call → History → Type 0
Unanswered h call start = ⊥
Unanswered h call (es ▷ e) = (asked_in e ≡ polled h call not_yet) ⊎ (Unanswered h call es × ¬ (Ends h call (asked_in e)))

-- a flush in progress counts from its first poll; one that is not begins now
abbrev pub from_first : Option ℕ → ℕ → ℕ
from_first (Some n) now = n
from_first None now = now

abbrev pub flush_polled : Reply → Option ℕ → ℕ → Option ℕ
flush_polled not_yet o now = Some (from_first o now)
flush_polled answered o now = None

abbrev pub bytes_written : Result (Poll ℕ) HandleError → Option ℕ → Option ℕ
bytes_written (Ok (Answer zero)) o = o
bytes_written (Ok (Answer (suc n))) o = None
bytes_written (Ok Pending) o = o
bytes_written (Err e) o = o

abbrev pub flush_after : ℕ → Event → Option ℕ → ℕ → Option ℕ
flush_after h (write bytes r) o now = o
flush_after h (check r) o now = o
flush_after h (flush r) o now = o
flush_after h cancel o now = o
flush_after h (turn word) o now = o
flush_after h (handle_write j bytes r) o now = cond (j == h) (bytes_written r o) o
flush_after h (handle_flush j r) o now = cond (j == h) (flush_polled (reply r) o now) o
flush_after h (handle_drop j r) o now = o

abbrev pub present_flush : ℕ → History → Option ℕ
present_flush h start = None
present_flush h (es ▷ e) = flush_after h e (present_flush h es) (length (accepted es))

abbrev pub began : ℕ → History → ℕ
began h es = from_first (present_flush h es) (length (accepted es))

abbrev pub Repeats : History → Asked → Type 0
Repeats es (polled h call r) = (c : Call) → Unanswered h c es → c ≡ call
Repeats es (dropped h) = Unit {0}
Repeats es nothing = Unit {0}

abbrev pub Patient : History → Type 0
Patient start = Unit {0}
Patient (es ▷ e) = Patient es × Repeats es (asked_in e)

abbrev pub NoCancel : History → Type 0
NoCancel start = Unit {0}
NoCancel (es ▷ e) = NoCancel es × ¬ (e ≡ cancel)

abbrev pub Polled : ℕ → Call → History → Type 0
Polled h call start = ⊥
Polled h call (es ▷ e) = Polled h call es ⊎ ((r : Reply) × (asked_in e ≡ polled h call r))

pub record Round (es es' : History) : Type 0 where
  pub word : Turn
  pub later : History
  pub shape : es' ≡ (es ▷ turn word) ▷▷ later
  pub progress : ¬ (word ≡ NotYet)
  pub polls : (h : ℕ) (call : Call) → Unanswered h call es → Unanswered h call es' → Polled h call later

pub data Rounds (es : History) : ℕ → History → Type 0 where
  none : Rounds es 0 es
  other : {n : ℕ} {es' : History} → Rounds es n es' → (e : Event) → Rounds es n (es' ▷ e)
  round : {n : ℕ} {es' es'' : History} → Rounds es n es' → Round es' es'' → Rounds es (suc n) es''

pub record Between (es mid es' : History) : Type 0 where
  pub since : History
  pub later : History
  pub from : mid ≡ es ▷▷ since
  pub to : es' ≡ mid ▷▷ later

pub record Waiting (h : ℕ) (call : Call) (n : ℕ) (es : History) : Type 0 where
  pub before : History
  pub poll : Event
  pub first : ¬ (Unanswered h call before)
  pub unbroken : (mid : History) → Between (before ▷ poll) mid es → Unanswered h call mid
  pub rounds : Rounds (before ▷ poll) n es
