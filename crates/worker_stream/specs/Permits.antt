-- A permit of the worker stream holds over host turns. Assumes nothing.
use Rattle.std.specs.Prelude.{◌≡◌, ℕ, zero, suc, ◌<◌, ◌≤◌, Bool, true, false, cond, ◌⊎◌, List, length, Ok, Err, ◌==◌, nat_lt, refl}
use Rattle.std.proofs.Common.{sym, ap, ◌∙◌, subst, inl, inr, arith, length-drop, lt-ltb, le-leb, ltb-true}
use Rattle.writer.specs.declared.answer.Fault.{Fault}
use Rattle.writer.specs.declared.answer.Fault.TheVariants.{WriteZero}
use Rattle.writer.specs.declared.answer.WriteAnswer.{WriteAnswer}
use Rattle.writer.specs.declared.answer.WriteAnswer.TheVariants.{Took, NotYet, Failed}
use Rattle.writer.specs.declared.answer.FlushAnswer.{FlushAnswer}
use Rattle.writer.specs.declared.answer.FlushAnswer.TheVariants.{Done, NotYet as FlushNotYet, Failed as FlushFailed}
use Rattle.stream.specs.declared.error.StreamError.TheVariants.{LastOperationFailed}
use Rattle.worker_stream.specs.declared.write_stream.job.Turn.{Turn}
use Rattle.worker_stream.specs.declared.write_stream.worker.Status.{Status}
use Rattle.worker_stream.specs.declared.write_stream.worker.Status.TheVariants.{Alive, Faulted, Closed}
use Rattle.stream.specs.Meaning.{open_with, permit}
use Rattle.stream.specs.HostTurns.{HostTurns, none, more}
use Rattle.stream.specs.StreamRules.{FaultOfTurn, Honoured, PermitRule}
use Rattle.worker_stream.specs.WorkerView.{WorkerView, with_writer}
use Rattle.worker_stream.specs.WorkerCalls.{is_alive, meaning, meaning_of, checked, accepts}
use Rattle.worker_stream.specs.Work.{Work, stop, finish_empty, offer, flush_writer, nothing}
use Rattle.worker_stream.specs.WorkerTurn.{finishes, moves, took, after_write, after_flush, Does, Turned, TurnedOnce}

module _ {V : Type 0} where
  -- a write of at most n bytes is accepted
  pub record Takes (n : ℕ) (s : WorkerView V) : Type 0 where
    pub lives : s.status ≡ Alive
    pub no_flush : s.pending ≡ false
    pub room : n ≤ s.free
    pub few : length s.unfinished < 256

  TakesOrFails : ℕ → WorkerView V → Type 0
  TakesOrFails n s = Takes n s ⊎ ((f : Fault) × (s.status ≡ Faulted f))

  takes_open : (n : ℕ) (s : WorkerView V) → Takes n s → meaning s ≡ open_with s.free
  takes_open n s h = rw (h.lives, h.no_flush, lt-ltb (length s.unfinished) 256 h.few)

  takes_accepts : (n : ℕ) (s : WorkerView V) (bytes : List ℕ) → Takes n s → length bytes ≤ n → accepts s bytes ≡ Ok tt
  takes_accepts n s bytes h small =
      rw (h.lives, h.no_flush, le-leb (length bytes) s.free (omega (arith, h.room)), lt-ltb (length s.unfinished) 256 h.few)

  fault_told : (s : WorkerView V) (bytes : List ℕ) (f : Fault) → s.status ≡ Faulted f → accepts s bytes ≡ Err (LastOperationFailed f)
  fault_told s bytes f e = rw e

  finished_takes : (n : ℕ) (s : WorkerView V) → Takes n s → Takes n (finishes s).view
  finished_takes n s h = record { lives = h.lives; no_flush = h.no_flush; room = omega (arith, h.room); few = simp length-drop (omega (arith, h.few)) }

  took_takes : (n k offered : ℕ) (s : WorkerView V) → Takes n s → TakesOrFails n (took k offered s).view
  unfolding TakesOrFails
  took_takes n zero offered s h = inr (WriteZero, refl)
  took_takes n (suc k) offered s h = go (suc k == offered)
    where
      go : (b : Bool) → TakesOrFails n (cond b (finishes s) (moves (suc k) s)).view
      go true = inl (finished_takes n s h)
      go false = inl (record { lives = h.lives; no_flush = h.no_flush; room = h.room; few = h.few })

  write_takes : (n : ℕ) (r : WriteAnswer) (offered : ℕ) (s : WorkerView V) → Takes n s → TakesOrFails n (after_write r offered s).view
  unfolding TakesOrFails
  write_takes n (Took k) offered s h = took_takes n k offered s h
  write_takes n NotYet offered s h = inl h
  write_takes n (Failed f) offered s h = inr (f, refl)

  flush_takes : (n : ℕ) (r : FlushAnswer) (s : WorkerView V) → Takes n s → TakesOrFails n (after_flush r s).view
  unfolding TakesOrFails
  flush_takes n Done s h = inl (record { lives = h.lives; no_flush = refl; room = h.room; few = h.few })
  flush_takes n FlushNotYet s h = inl h
  flush_takes n (FlushFailed f) s h = inr (f, refl)

  same_writer : (n : ℕ) (w : V) (s : WorkerView V) → Takes n s → Takes n (with_writer w s)
  same_writer n w s h = record { lives = h.lives; no_flush = h.no_flush; room = h.room; few = h.few }

module _ {V : Type 0} (writes : V → List ℕ → WriteAnswer → V → Type 0) (flushes : V → FlushAnswer → V → Type 0) where
  does_takes : (w : Work) (n : ℕ) (s : WorkerView V) (r : Turn) (t : WorkerView V) → Takes n s → Does writes flushes w s r t → TakesOrFails n t
  unfolding TakesOrFails
  does_takes stop n s r t h d = inl (subst (Takes n) (sym d.view) h)
  does_takes finish_empty n s r t h d = inl (subst (Takes n) (sym d.view) (finished_takes n s h))
  does_takes (offer part) n s r t h d = subst (TakesOrFails n) (sym d.gives.view) (write_takes n d.answer (length part) (with_writer d.writer s) (same_writer n d.writer s h))
  does_takes flush_writer n s r t h d = subst (TakesOrFails n) (sym d.gives.view) (flush_takes n d.answer (with_writer d.writer s) (same_writer n d.writer s h))
  does_takes nothing n s r t h d = inl (subst (Takes n) (sym d.view) h)

  -- a stream that is not alive stays as it is over a turn
  pub stopped_stays : (s : WorkerView V) (r : Turn) (t : WorkerView V) → is_alive s.status ≡ false → Turned writes flushes s r t → t ≡ s
  stopped_stays s r t dead d = go s.cancelled (is_alive s.status) _ dead d
    where
      go : (b a : Bool) (w : Work) → a ≡ false → Does writes flushes (cond b stop (cond a w stop)) s r t → t ≡ s
      go true a w e d = d.view
      go false false w e d = d.view
      go false true w e d = absurd (cc)

  -- over turns the permit holds, or some turn met a fault that is not told yet
  Held : ℕ → WorkerView V → WorkerView V → Type 0
  Held n s t = Takes n t ⊎ ((f : Fault) × (t.status ≡ Faulted f) × FaultOfTurn meaning (TurnedOnce writes flushes) s t f)

  turn_held : {s : WorkerView V} (n : ℕ) (t u : WorkerView V) → HostTurns (TurnedOnce writes flushes) s t → TurnedOnce writes flushes t u → Held n s t → Held n s u
  unfolding Held TakesOrFails
  turn_held {s} n t u run (r, d) (inl h) = go (does_takes _ n t r u h d)
    where
      go : TakesOrFails n u → Held n s u
      go (inl k) = inl k
      go (inr (f, e)) =
          inr (f, e, record { before = t; after = u; permitted = t.free; earlier = run; was_open = takes_open n t h; turn = (r, d); then_faulted = rw e; later = none; untold = rw e })
  turn_held {s} n t u run (r, d) (inr (f, e, o)) =
      let same : u ≡ t = stopped_stays t r u (rw e) d in
      inr (f, ap (λ v. v.status) same ∙ e, record { before = o.before; after = o.after; permitted = o.permitted; earlier = o.earlier; was_open = o.was_open; turn = o.turn; then_faulted = o.then_faulted; later = more o.later (r, d); untold = rw (ap (λ v. v.status) same ∙ e) })

  turns_held : {s t : WorkerView V} (n : ℕ) → HostTurns (TurnedOnce writes flushes) s t → Takes n s → Held n s t
  unfolding Held
  turns_held n none h = inl h
  turns_held n (more {t = t} {u = u} run d) h = turn_held n t u run d (turns_held n run h)

  held_honoured : (n : ℕ) (s t : WorkerView V) (bytes : List ℕ) → length bytes ≤ n → Held n s t → Honoured meaning (TurnedOnce writes flushes) s t (accepts t bytes)
  unfolding Held
  held_honoured n s t bytes small (inl h) = rw (takes_accepts n t bytes h small) tt
  held_honoured n s t bytes small (inr (f, e, o)) = rw (fault_told t bytes f e) o

-- a permit above 0 means that a write of that length is taken
module _ {V : Type 0} where
  permit_takes : (n : ℕ) (s : WorkerView V) → permit (meaning s) ≡ Ok n → 0 < n → Takes n s × (checked s ≡ s)
  permit_takes n s e pos = go s.status s.pending (nat_lt (length s.unfinished) 256) refl refl refl e
    where
      go : (st : Status) (p l : Bool) → s.status ≡ st → s.pending ≡ p → nat_lt (length s.unfinished) 256 ≡ l → permit (meaning_of st (cond p 0 (cond l s.free 0))) ≡ Ok n → Takes n s × (checked s ≡ s)
      go Alive false true a b c e =
          (record { lives = a; no_flush = b; room = (let q : s.free ≡ n = cc in omega arith); few = ltb-true (length s.unfinished) 256 c }, rw a)
      go Alive false false a b c e = absurd (let q : 0 ≡ n = cc in omega arith)
      go Alive true l a b c e = absurd (let q : 0 ≡ n = cc in omega arith)
      go (Faulted f) p l a b c e = absurd (cc)
      go Closed p l a b c e = absurd (cc)

module _ {V : Type 0} (writes : V → List ℕ → WriteAnswer → V → Type 0) (flushes : V → FlushAnswer → V → Type 0) where
  pub permit_holds : PermitRule meaning (TurnedOnce writes flushes) checked accepts
  permit_holds s t n bytes e pos small run =
      let h = permit_takes n s e pos in
      let start : Takes n (checked s) = subst (Takes n) (sym h.1) h.0 in
      held_honoured writes flushes n (checked s) t bytes small (turns_held writes flushes n run start)
