-- What holds after every list of calls of a shared stream just made, over any writer. Assumes nothing.
--   total       the length of writes together
--   Run         a history of calls from a stream just made, and what it leaves
--   Conserved   budget, lengths and bytes, by the history
--   Covered     what a flush has done that answers done
--   InTime      how many full rounds a call can wait
--   Promises    the three promises, over every run: each prefix of a run is a run
use Rattle.std.specs.Prelude.{◌≡◌, ℕ, ◌+◌, ◌*◌, ◌<◌, ◌≤◌, List, ◌++◌, map, length, take, Ok}
use mathlib.Core.List.{flatten}
use Rattle.writer.specs.declared.answer.WriteAnswer.{WriteAnswer}
use Rattle.writer.specs.declared.answer.FlushAnswer.{FlushAnswer}
use Rattle.worker_stream.specs.Lengths.{sum_of}
use Rattle.worker_stream.specs.WorkerView.{WorkerView, fresh as stream_just_made}
use Rattle.handles.specs.declared.handle.HandleState.TheVariants.{Closed}
use Rattle.handles.specs.declared.handle.Poll.TheVariants.{Ready as Answer}
use Rattle.promises.specs.SharedView.{SharedView, fresh}
use Rattle.promises.specs.Events.{Event, handle_flush}
use Rattle.promises.specs.Steps.{Step, free_budget, handle_state}
use Rattle.promises.specs.History.{History, start, ◌▷◌, accepted, finished_lengths, moved, finished_writes, unfinished_writes, next_write, writes, flushes, began, Patient, NoCancel, Waiting}

abbrev pub total : List (List ℕ) → ℕ
total ws = sum_of (map length ws)

pub data Run {V : Type 0} (writes : V → List ℕ → WriteAnswer → V → Type 0) (flushes : V → FlushAnswer → V → Type 0) (budget handles : ℕ) (writer : V) : History → SharedView (WorkerView V) → Type 0 where
  made : Run writes flushes budget handles writer start (fresh (stream_just_made budget writer) handles)
  called : {es : History} {e : Event} {s t : SharedView (WorkerView V)} → Run writes flushes budget handles writer es s → Step writes flushes s e t → Run writes flushes budget handles writer (es ▷ e) t

-- budget: the starting budget; before: the bytes that the writer had taken before the stream was made
pub record Conserved (budget : ℕ) (before : List ℕ) (es : History) (free : ℕ) (taken : List ℕ) : Type 0 where
  pub balance : free + total (unfinished_writes es) ≡ budget
  pub lengths : finished_lengths es ≡ map length (finished_writes es)
  pub partly : moved es ≤ length (next_write es)
  pub bytes : taken ≡ before ++ flatten (finished_writes es) ++ take (moved es) (next_write es)

pub record Covered (before : List ℕ) (es : History) (h : ℕ) (covered : ℕ) : Type 0 where
  pub finished : began h es ≤ length (finished_lengths es)
  pub count : length before + total (take (began h es) (accepted es)) ≤ covered

pub record InTime (budget handles : ℕ) (es : History) : Type 0 where
  pub write : (h n : ℕ) (bytes : List ℕ) → Waiting h (writes bytes) n es → n < handles * (budget + 257)
  pub flush : (h n : ℕ) → Waiting h flushes n es → n < 2 * (handles * (budget + 257))

pub record Promises {V : Type 0} (taken : V → List ℕ) (covered : V → ℕ) (writes : V → List ℕ → WriteAnswer → V → Type 0) (flushes : V → FlushAnswer → V → Type 0) : Type 0 where
  pub conservation : (budget handles : ℕ) (writer : V) (es : History) (s : SharedView (WorkerView V)) → Run writes flushes budget handles writer es s
      → Conserved budget (taken writer) es (free_budget s) (taken s.stream.writer)
  pub done_means_flushed : (budget handles : ℕ) (writer : V) (es : History) (s : SharedView (WorkerView V)) (h : ℕ) → Run writes flushes budget handles writer (es ▷ handle_flush h (Ok (Answer tt))) s
      → ¬ (handle_state h s ≡ Closed) → Covered (taken writer) es h (covered s.stream.writer)
  pub bounded_waiting : (budget handles : ℕ) (writer : V) (es : History) (s : SharedView (WorkerView V)) → 0 < budget → Run writes flushes budget handles writer es s
      → NoCancel es → Patient es → InTime budget handles es
