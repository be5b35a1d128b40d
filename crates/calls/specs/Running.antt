-- What a list of calls, performed from a shared stream just made, is promised. Assumes nothing.
--   HoldsAt   the three promises at one history of a run and what it leaves
--   Kept      the promises hold at every prefix of a history
--   Ran       a run of these calls with these answers, and the promises kept over it
use Rattle.std.specs.Prelude.{◌≡◌, ℕ, ◌<◌, List, Ok}
use Rattle.writer.specs.declared.answer.WriteAnswer.{WriteAnswer}
use Rattle.writer.specs.declared.answer.FlushAnswer.{FlushAnswer}
use Rattle.worker_stream.specs.WorkerView.{WorkerView}
use Rattle.handles.specs.declared.handle.HandleState.TheVariants.{Closed}
use Rattle.handles.specs.declared.handle.Poll.TheVariants.{Ready as Answered}
use Rattle.promises.specs.SharedView.{SharedView}
use Rattle.promises.specs.Events.{handle_flush}
use Rattle.promises.specs.Steps.{free_budget, handle_state}
use Rattle.promises.specs.History.{History, ◌▷◌, ◌▷▷◌, NoCancel, Patient}
use Rattle.promises.specs.Promises.{Run, Conserved, Covered, InTime}
use Rattle.calls.specs.declared.answer.Answer.{Answer}
use Rattle.handles.specs.Calls.{CallView}
use Rattle.calls.specs.Calls.{Performed}

module _ {V : Type 0} (taken : V → List ℕ) (covered : V → ℕ) (writes : V → List ℕ → WriteAnswer → V → Type 0) (flushes : V → FlushAnswer → V → Type 0) (budget handles : ℕ) (writer : V) where
  pub record HoldsAt (es : History) (s : SharedView (WorkerView V)) : Type 0 where
    pub conservation : Conserved budget (taken writer) es (free_budget s) (taken s.stream.writer)
    pub done_means_flushed : (before : History) (h : ℕ) → es ≡ before ▷ handle_flush h (Ok (Answered tt)) → ¬ (handle_state h s ≡ Closed) → Covered (taken writer) before h (covered s.stream.writer)
    pub bounded_waiting : 0 < budget → NoCancel es → Patient es → InTime budget handles es

  abbrev pub Kept : History → Type 0
  Kept es = (prefix later : History) → es ≡ prefix ▷▷ later → (s : SharedView (WorkerView V)) × Run writes flushes budget handles writer prefix s × HoldsAt prefix s

  pub record Ran (calls : List CallView) (answers : List Answer) (left : SharedView (WorkerView V)) : Type 0 where
    pub history : History
    pub performed : Performed calls answers history
    pub run : Run writes flushes budget handles writer history left
    pub kept : Kept history
