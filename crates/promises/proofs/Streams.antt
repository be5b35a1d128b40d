-- The worker stream with the bytes of its writer, the few ways of a host turn, and what each call leaves by the stream's status.
-- Assumes nothing.
use Rattle.std.proofs.Common.{◌≡◌, ℕ, zero, suc, ◌+◌, ◌<◌, ◌≤◌, Bool, true, false, cond, not, eqb, ltb, leb, ◌⊎◌, List, [], ◌∷◌, ◌++◌, length, take, drop, Some, None, Option, sym, refl, ap, ◌∙◌, inl, inr, append-nil, arith, length-drop, take_all, ltb-true, lt-ltb, eqb-true, le-leb, leb-true}
use Rattle.std.proofs.Math.Path.{subst⁻¹}
use Rattle.std.proofs.lemmas.Bool.{eqb-false}
use Rattle.writer.specs.declared.answer.Fault.{Fault}
use Rattle.writer.specs.declared.answer.Fault.TheVariants.{WriteZero}
use Rattle.writer.specs.declared.answer.WriteAnswer.{WriteAnswer}
use Rattle.writer.specs.declared.answer.WriteAnswer.TheVariants.{Took, NotYet as WriteNotYet, Failed as WriteFailed}
use Rattle.writer.specs.declared.answer.FlushAnswer.{FlushAnswer}
use Rattle.writer.specs.declared.answer.FlushAnswer.TheVariants.{Done, NotYet as FlushNotYet, Failed as FlushFailed}
use Rattle.writer.specs.Meaning.{WriteMeans, FlushMeans}
use Rattle.stream.specs.declared.error.StreamError.{StreamError}
use Rattle.stream.specs.declared.error.StreamError.TheVariants.{LastOperationFailed, Closed, Trap}
use Rattle.stream.specs.declared.error.Trap.TheVariants.{FlushPending, OverBudget, TooManyWrites}
use Rattle.worker_stream.specs.declared.write_stream.job.Turn.{Turn}
use Rattle.worker_stream.specs.declared.write_stream.job.Turn.TheVariants.{Stopped, Finished, Moved, Flushed, Idle, NotYet, Failed}
use Rattle.worker_stream.specs.declared.write_stream.worker.Status.{Status}
use Rattle.worker_stream.specs.declared.write_stream.worker.Status.TheVariants.{Alive, Faulted, Closed as ClosedStatus}
use Rattle.stream.specs.Questions.{asks, first_no}
use Rattle.stream.specs.Meaning.{faulted, closed, open_with}
use Rattle.worker_stream.specs.StoreView.{oldest}
use Rattle.worker_stream.specs.Work.{stop, work_left}
use Rattle.worker_stream.specs.WorkerView.{WorkerView, with_free, with_unfinished, with_progress, with_pending, with_status, with_writer}
use Rattle.worker_stream.specs.WorkerCalls.{no_fault, alive, is_alive, meaning, left_by, accept, checked, wrote, flushed, write_refusal}
use Rattle.worker_stream.specs.WorkerTurn.{Outcome, outcome, Gives, Does, Turned, after_write, after_flush, finishes, moves, fails}

-- from 0 ≡ 1, anything
pub impossible : {X : Type 0} → ◌≡◌ {A = ℕ} 0 1 → X
impossible e = absurd (omega arith)

-- what promises read of a writer
pub record WriterBytes : Type 0 where
  pub taken : List ℕ
  pub covered : ℕ

abbrev pub Stream : Type 0
Stream = WorkerView WriterBytes

bytes_are : (t t' : List ℕ) (c c' : ℕ) → t ≡ t' → c ≡ c' → ◌≡◌ {A = WriterBytes} (record { taken = t; covered = c }) (record { taken = t'; covered = c' })
bytes_are t t' c c' p q = ap (λ (x : List ℕ). record { taken = x; covered = c }) p ∙ ap (λ (x : ℕ). record { taken = t'; covered = x }) q

abbrev pub finish : List ℕ → List (List ℕ) → Stream → Stream
finish w us s = with_writer (record { taken = s.writer.taken ++ drop s.progress w; covered = s.writer.covered }) (with_free (s.free + length w) (with_unfinished us (with_progress 0 s)))

abbrev pub move : ℕ → List ℕ → Stream → Stream
move k w s = with_writer (record { taken = s.writer.taken ++ take k (drop s.progress w); covered = s.writer.covered }) (with_progress (s.progress + k) s)

abbrev pub fail : Fault → Stream → Stream
fail f s = with_status (Faulted f) (with_pending false s)

abbrev pub cover : Stream → Stream
cover s = with_writer (record { taken = s.writer.taken; covered = length s.writer.taken }) (with_pending false s)

pub data TurnWay (s : Stream) : Turn → Stream → Type 0 where
  stops : (s.cancelled ≡ true) ⊎ (¬ (s.status ≡ Alive)) → TurnWay s Stopped s
  finishing : (w : List ℕ) (us : List (List ℕ)) → s.status ≡ Alive → s.unfinished ≡ w ∷ us → TurnWay s (Finished (length w)) (finish w us s)
  moving : (w : List ℕ) (us : List (List ℕ)) (k : ℕ) → s.status ≡ Alive → s.unfinished ≡ w ∷ us → s.progress + suc k < length w → TurnWay s (Moved (suc k)) (move (suc k) w s)
  waiting : TurnWay s NotYet s
  failing : (f : Fault) → s.status ≡ Alive → TurnWay s Failed (fail f s)
  covering : s.status ≡ Alive → s.unfinished ≡ [] → s.pending ≡ true → TurnWay s Flushed (cover s)
  idle : s.status ≡ Alive → s.unfinished ≡ [] → s.pending ≡ false → TurnWay s Idle s

not_alive_faulted : (st : Status) (f : Fault) → st ≡ Faulted f → ¬ (st ≡ Alive)
not_alive_faulted st f e z = impossible (cc)

not_alive_closed : (st : Status) → st ≡ ClosedStatus → ¬ (st ≡ Alive)
not_alive_closed st e z = impossible (cc)

module _ {V : Type 0} (taken : V → List ℕ) (covered : V → ℕ) where
  abbrev pub bytes_of : V → WriterBytes
  bytes_of v = record { taken = taken v; covered = covered v }

  abbrev pub stream_of : WorkerView V → Stream
  stream_of s = record { free = s.free; unfinished = s.unfinished; progress = s.progress; pending = s.pending; status = s.status; cancelled = s.cancelled; writer = bytes_of s.writer }

  gives_way : (s₀ : Stream) (o : Outcome V) (r : Turn) (t : WorkerView V) → Gives o r t → TurnWay s₀ o.word (stream_of o.view) → TurnWay s₀ r (stream_of t)
  gives_way s₀ o r t g k = subst⁻¹ (λ (x : Turn). TurnWay s₀ x (stream_of t)) g.word (subst⁻¹ (λ (x : WorkerView V). TurnWay s₀ o.word (stream_of x)) g.view k)

  module _ (s : WorkerView V) where
    abbrev Leads : Outcome V → Type 0
    Leads o = TurnWay (stream_of s) o.word (stream_of o.view)

    finishes_way : (w : List ℕ) (us : List (List ℕ)) (v : V) → s.status ≡ Alive → s.unfinished ≡ w ∷ us → taken v ≡ taken s.writer ++ drop s.progress w → covered v ≡ covered s.writer
        → Leads (finishes (with_writer v s))
    finishes_way w us v ha hu p q =
        subst⁻¹ (λ (x : List (List ℕ)). TurnWay (stream_of s) (Finished (length (oldest x))) (with_writer (bytes_of v) (with_free (s.free + length (oldest x)) (with_unfinished (drop 1 x) (with_progress 0 (stream_of s)))))) hu
        (subst⁻¹ (λ (b : WriterBytes). TurnWay (stream_of s) (Finished (length w)) (with_writer b (with_free (s.free + length w) (with_unfinished us (with_progress 0 (stream_of s)))))) (bytes_are (taken v) (taken s.writer ++ drop s.progress w) (covered v) (covered s.writer) p q)
        (finishing w us ha hu))

    fails_way : (f : Fault) (v : V) → s.status ≡ Alive → taken v ≡ taken s.writer → covered v ≡ covered s.writer → Leads (fails f (with_writer v s))
    fails_way f v ha p q =
        subst⁻¹ (λ (b : WriterBytes). TurnWay (stream_of s) Failed (with_writer b (fail f (stream_of s)))) (bytes_are (taken v) (taken s.writer) (covered v) (covered s.writer) p q) (failing f ha)

    waits_way : (v : V) → taken v ≡ taken s.writer → covered v ≡ covered s.writer → TurnWay (stream_of s) NotYet (stream_of (with_writer v s))
    waits_way v p q = subst⁻¹ (λ (b : WriterBytes). TurnWay (stream_of s) NotYet (with_writer b (stream_of s))) (bytes_are (taken v) (taken s.writer) (covered v) (covered s.writer) p q) waiting

    took_way : (w : List ℕ) (us : List (List ℕ)) (v : V) (k : ℕ) (b : Bool) → eqb (suc k) (length (drop s.progress w)) ≡ b → s.status ≡ Alive → s.unfinished ≡ w ∷ us
        → suc k ≤ length (drop s.progress w) → taken v ≡ taken s.writer ++ take (suc k) (drop s.progress w) → covered v ≡ covered s.writer
        → Leads (cond b (finishes (with_writer v s)) (moves (suc k) (with_writer v s)))
    took_way w us v k true e ha hu le p q =
        let n = eqb-true (suc k) (length (drop s.progress w)) e in
        let a : take (suc k) (drop s.progress w) ≡ drop s.progress w = take_all (suc k) (drop s.progress w) (omega arith) in
        finishes_way w us v ha hu (p ∙ ap (λ (x : List ℕ). taken s.writer ++ x) a) q
    took_way w us v k false e ha hu le p q =
        let n = eqb-false (suc k) (length (drop s.progress w)) e in
        let d = length-drop s.progress w in
        subst⁻¹ (λ (b : WriterBytes). TurnWay (stream_of s) (Moved (suc k)) (with_writer b (with_progress (s.progress + suc k) (stream_of s)))) (bytes_are (taken v) (taken s.writer ++ take (suc k) (drop s.progress w)) (covered v) (covered s.writer) p q)
        (moving w us k ha hu (omega arith))

    offered_way : (w : List ℕ) (us : List (List ℕ)) (a : WriteAnswer) (v : V) → s.status ≡ Alive → s.unfinished ≡ w ∷ us
        → WriteMeans (taken s.writer) (covered s.writer) (drop s.progress w) a (taken v) (covered v) → Leads (after_write a (length (drop s.progress w)) (with_writer v s))
    offered_way w us (Took zero) v ha hu m = fails_way WriteZero v ha (m.bytes ∙ append-nil (taken s.writer)) m.count
    offered_way w us (Took (suc k)) v ha hu m = took_way w us v k (eqb (suc k) (length (drop s.progress w))) refl ha hu m.within m.bytes m.count
    offered_way w us WriteNotYet v ha hu m = waits_way v m.bytes m.count
    offered_way w us (WriteFailed f) v ha hu m = fails_way f v ha m.bytes m.count

    flushing_way : (a : FlushAnswer) (v : V) → s.status ≡ Alive → s.unfinished ≡ [] → s.pending ≡ true
        → FlushMeans (taken s.writer) (covered s.writer) a (taken v) (covered v) → Leads (after_flush a (with_writer v s))
    flushing_way Done v ha hu hp m =
        subst⁻¹ (λ (b : WriterBytes). TurnWay (stream_of s) Flushed (with_writer b (with_pending false (stream_of s)))) (bytes_are (taken v) (taken s.writer) (covered v) (length (taken s.writer)) m.bytes m.count) (covering ha hu hp)
    flushing_way FlushNotYet v ha hu hp m = waits_way v m.bytes m.count
    flushing_way (FlushFailed f) v ha hu hp m = fails_way f v ha m.bytes m.count

  module _
      {writes : V → List ℕ → WriteAnswer → V → Type 0} {flushes : V → FlushAnswer → V → Type 0}
      (wrote_law : (a b : V) (part : List ℕ) (r : WriteAnswer) → writes a part r b → WriteMeans (taken a) (covered a) part r (taken b) (covered b))
      (flushed_law : (a b : V) (r : FlushAnswer) → flushes a r b → FlushMeans (taken a) (covered a) r (taken b) (covered b))
      (s t : WorkerView V) (r : Turn)
    where
      work_way : (c : Bool) (st : Status) (us : List (List ℕ)) (p : Bool) → s.cancelled ≡ c → s.status ≡ st → s.unfinished ≡ us → s.pending ≡ p
          → Does writes flushes (cond c stop (cond (is_alive st) (work_left us s.progress p) stop)) s r t → TurnWay (stream_of s) r (stream_of t)
      work_way true st us p hc hs hu hp g = gives_way (stream_of s) (outcome Stopped s) r t g (stops (inl hc))
      work_way false (Faulted f) us p hc hs hu hp g = gives_way (stream_of s) (outcome Stopped s) r t g (stops (inr (not_alive_faulted s.status f hs)))
      work_way false ClosedStatus us p hc hs hu hp g = gives_way (stream_of s) (outcome Stopped s) r t g (stops (inr (not_alive_closed s.status hs)))
      work_way false Alive ([] ∷ us) p hc hs hu hp g =
          gives_way (stream_of s) (finishes s) r t g
          (finishes_way s [] us s.writer hs hu (sym (append-nil (taken s.writer)) ∙ ap (λ (x : List ℕ). taken s.writer ++ x) (sym (lib.Seq.drop-nil s.progress))) refl)
      work_way false Alive ((b ∷ bs) ∷ us) p hc hs hu hp o =
          gives_way (stream_of s) (after_write o.answer (length (drop s.progress (b ∷ bs))) (with_writer o.writer s)) r t o.gives
          (offered_way s (b ∷ bs) us o.answer o.writer hs hu (wrote_law s.writer o.writer (drop s.progress (b ∷ bs)) o.answer o.tells))
      work_way false Alive [] true hc hs hu hp o =
          gives_way (stream_of s) (after_flush o.answer (with_writer o.writer s)) r t o.gives
          (flushing_way s o.answer o.writer hs hu hp (flushed_law s.writer o.writer o.answer o.tells))
      work_way false Alive [] false hc hs hu hp g = gives_way (stream_of s) (outcome Idle s) r t g (idle hs hu hp)

      pub turn_way : Turned writes flushes s r t → TurnWay (stream_of s) r (stream_of t)
      turn_way g = work_way s.cancelled s.status s.unfinished s.pending refl refl refl refl g

-- a permit above 0: what it says of the stream
pub record Permits {V : Type 0} (s : WorkerView V) (n : ℕ) : Type 0 where
  pub is_live : s.status ≡ Alive
  pub no_flush : s.pending ≡ false
  pub room : length s.unfinished < 256
  pub budget : s.free ≡ suc n

module _ {V : Type 0} (s : WorkerView V) where
  pub permits_of : (n : ℕ) → meaning s ≡ open_with (suc n) → Permits s n
  permits_of n e = grind arith

  pub alive_when_open : (n : ℕ) → meaning s ≡ open_with n → s.status ≡ Alive
  alive_when_open n e = grind arith

  pub faulted_status : (f : Fault) → meaning s ≡ faulted f → s.status ≡ Faulted f
  faulted_status f e = grind arith

  pub closed_status : meaning s ≡ closed → s.status ≡ ClosedStatus
  closed_status e = grind arith

  abbrev checked_at : Status → WorkerView V
  checked_at st = left_by (first_no (no_fault st ∷ alive st ∷ [])) s s

  abbrev flushed_at : Status → WorkerView V
  flushed_at st = left_by (first_no (no_fault st ∷ alive st ∷ [])) s (with_pending true s)

  pub checked_faulted : (f : Fault) → s.status ≡ Faulted f → checked s ≡ with_status ClosedStatus s
  checked_faulted f e = ap (λ (st : Status). checked_at st) e

  pub checked_closed : s.status ≡ ClosedStatus → checked s ≡ s
  checked_closed e = ap (λ (st : Status). checked_at st) e

  pub checked_open : s.status ≡ Alive → checked s ≡ s
  checked_open e = ap (λ (st : Status). checked_at st) e

  pub flushed_faulted : (f : Fault) → s.status ≡ Faulted f → flushed s ≡ with_status ClosedStatus s
  flushed_faulted f e = ap (λ (st : Status). flushed_at st) e

  pub flushed_closed : s.status ≡ ClosedStatus → flushed s ≡ s
  flushed_closed e = ap (λ (st : Status). flushed_at st) e

  pub flushed_open : s.status ≡ Alive → flushed s ≡ with_pending true s
  flushed_open e = ap (λ (st : Status). flushed_at st) e

  abbrev refusal_at : Status → Bool → Bool → Bool → Option StreamError
  refusal_at st p fits room = first_no (no_fault st ∷ alive st ∷ asks (not p) (Trap FlushPending) ∷ asks fits (Trap OverBudget) ∷ asks room (Trap TooManyWrites) ∷ [])

  pub accepted_write : (bytes : List ℕ) → s.status ≡ Alive → s.pending ≡ false → length bytes ≤ s.free → length s.unfinished < 256 → write_refusal s bytes ≡ None
  accepted_write bytes a p f r =
      ap (λ (st : Status). refusal_at st s.pending (leb (length bytes) s.free) (ltb (length s.unfinished) 256)) a
      ∙ ap (λ (b : Bool). refusal_at Alive b (leb (length bytes) s.free) (ltb (length s.unfinished) 256)) p
      ∙ ap (λ (b : Bool). refusal_at Alive false b (ltb (length s.unfinished) 256)) (le-leb (length bytes) s.free f)
      ∙ ap (λ (b : Bool). refusal_at Alive false true b) (lt-ltb (length s.unfinished) 256 r)

  pub wrote_permitted : (n : ℕ) (bytes : List ℕ) → Permits s n → length bytes ≤ suc n → wrote s bytes ≡ accept bytes s
  wrote_permitted n bytes p l =
      ap (λ (o : Option StreamError). left_by o s (accept bytes s)) (accepted_write bytes p.is_live p.no_flush (let b = p.budget in omega arith) p.room)

  -- why a write is refused or accepted
  pub data WriteWhy (bytes : List ℕ) : Option StreamError → Type 0 where
    accepts_it : s.status ≡ Alive → s.pending ≡ false → length bytes ≤ s.free → length s.unfinished < 256 → WriteWhy bytes None
    finds_fault : (f : Fault) → s.status ≡ Faulted f → WriteWhy bytes (Some (LastOperationFailed f))
    finds_closed : WriteWhy bytes (Some Closed)
    is_trap : (e : _) → WriteWhy bytes (Some (Trap e))

  why_at : (bytes : List ℕ) (st : Status) (p fits room : Bool) → s.status ≡ st → s.pending ≡ p → leb (length bytes) s.free ≡ fits → ltb (length s.unfinished) 256 ≡ room
      → WriteWhy bytes (refusal_at st p fits room)
  why_at bytes (Faulted f) p fits room hs hp hf hr = finds_fault f hs
  why_at bytes ClosedStatus p fits room hs hp hf hr = finds_closed
  why_at bytes Alive true fits room hs hp hf hr = is_trap FlushPending
  why_at bytes Alive false false room hs hp hf hr = is_trap OverBudget
  why_at bytes Alive false true false hs hp hf hr = is_trap TooManyWrites
  why_at bytes Alive false true true hs hp hf hr = accepts_it hs hp (leb-true (length bytes) s.free hf) (ltb-true (length s.unfinished) 256 hr)

  pub write_why : (bytes : List ℕ) → WriteWhy bytes (write_refusal s bytes)
  write_why bytes = why_at bytes s.status s.pending (leb (length bytes) s.free) (ltb (length s.unfinished) 256) refl refl refl refl
