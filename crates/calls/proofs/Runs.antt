-- A list of calls makes a run, and the promises hold at every prefix of it. Assumes nothing.
use Rattle.std.proofs.Common.{◌≡◌, ℕ, ◌+◌, ◌<◌, ◌≤◌, List, [], ◌∷◌, ◌++◌, map, length, get_or, take, sym, ap, ◌∙◌, subst}
use Rattle.std.proofs.Math.ListN.{length-replicate}
use Rattle.std.proofs.lemmas.List.{map_more, take_all}
use Rattle.writer.specs.declared.answer.WriteAnswer.{WriteAnswer}
use Rattle.writer.specs.declared.answer.FlushAnswer.{FlushAnswer}
use Rattle.worker_stream.specs.WorkerView.{WorkerView, fresh as fresh_stream}
use Rattle.promises.specs.SharedView.{SharedView, fresh}
use Rattle.promises.specs.Events.{Event}
use Rattle.promises.specs.Steps.{Step}
use Rattle.promises.specs.History.{History, start, ◌▷◌, ◌▷▷◌}
use Rattle.promises.specs.Promises.{Run, made, called, Promises}
use Rattle.calls.specs.declared.answer.Answer.{Answer}
use Rattle.handles.specs.declared.call.Call.{Call}
use Rattle.handles.specs.Calls.{call_view}
use Rattle.calls.specs.Calls.{Pairs, Performed, more}
use Rattle.calls.specs.Running.{HoldsAt, Kept}

module _ {V : Type 0} (writes : V → List ℕ → WriteAnswer → V → Type 0) (flushes : V → FlushAnswer → V → Type 0) where
  module _ (budget handles : ℕ) (writer : V) (s : SharedView (WorkerView V)) (begins : s ≡ fresh (fresh_stream budget writer) handles) where
    pub started : Run writes flushes s.stream.free (length s.handles) s.stream.writer start s
    started = subst (λ t. Run writes flushes t.stream.free (length t.handles) t.stream.writer start t) (sym begins) (subst (λ n. Run writes flushes budget n writer start (fresh (fresh_stream budget writer) handles)) (sym (length-replicate handles _)) made)

    pub from_limits : (es : History) (t : SharedView (WorkerView V)) → Run writes flushes s.stream.free (length s.handles) s.stream.writer es t → Run writes flushes budget handles writer es t
    from_limits es t r =
        subst (λ n. Run writes flushes budget n writer es t) (ap (λ u. length u.handles) begins ∙ length-replicate handles _)
        (subst (λ u. Run writes flushes u.stream.free (length s.handles) u.stream.writer es t) begins r)

  prefix_run : {budget handles : ℕ} {writer : V} (prefix later : History) (t : SharedView (WorkerView V)) → Run writes flushes budget handles writer (prefix ▷▷ later) t → (s : SharedView (WorkerView V)) × Run writes flushes budget handles writer prefix s
  prefix_run prefix start t r = (t, r)
  prefix_run prefix (later ▷ e) t (called {s = s} r x) = prefix_run prefix later s r

  module _ (taken : V → List ℕ) (covered : V → ℕ) (promises : Promises taken covered writes flushes) (budget handles : ℕ) (writer : V) where
    holds_at : (es : History) (s : SharedView (WorkerView V)) → Run writes flushes budget handles writer es s → HoldsAt taken covered writes flushes budget handles writer es s
    holds_at es s r =
        record {
          conservation = promises.conservation budget handles writer es s r;
          done_means_flushed = λ before h e. promises.done_means_flushed budget handles writer before s h (subst (λ x. Run writes flushes budget handles writer x s) e r);
          bounded_waiting = λ pos. promises.bounded_waiting budget handles writer es s pos r;
        }

    pub all_kept : (es : History) (s : SharedView (WorkerView V)) → Run writes flushes budget handles writer es s → Kept taken covered writes flushes budget handles writer es
    all_kept es s r prefix later e =
        let p = prefix_run prefix later s (subst (λ x. Run writes flushes budget handles writer x s) e r) in
        (p.0, p.1, holds_at prefix p.0 p.1)

module _ {V : Type 0} {writes : V → List ℕ → WriteAnswer → V → Type 0} {flushes : V → FlushAnswer → V → Type 0} where
  -- one call more
  pub one_more :
      {budget handles : ℕ} {writer : V} (calls : List Call) (i : ℕ) (d : Call) (answers answers' : List Answer) (a : Answer) (s t : SharedView (WorkerView V)) → i < length calls → answers' ≡ answers ++ a ∷ [] →
      (es : History) × Performed (map call_view (take i calls)) answers es × Run writes flushes budget handles writer es s → (e : Event) × Pairs (call_view (get_or calls i d)) a e × Step writes flushes s e t →
      (es : History) × Performed (map call_view (take (i + 1) calls)) answers' es × Run writes flushes budget handles writer es t
  one_more calls i d answers answers' a s t here pushed (es, p, r) (e, pair, step) =
      (es ▷ e, rw (map_more call_view calls i d here, pushed) (more p (call_view (get_or calls i d)) a e pair), called r step)

pub all_performed : (calls : List Call) (i : ℕ) (answers : List Answer) (es : History) → length calls ≤ i → Performed (map call_view (take i calls)) answers es → Performed (map call_view calls) answers es
all_performed calls i answers es h p = rw (take_all i calls h) at p
