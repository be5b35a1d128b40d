-- Bounded waiting: each full round leaves fewer rounds to an unanswered call.
-- Assumes nothing.
use Rattle.std.proofs.Common.{◌≡◌, ℕ, suc, ◌+◌, ◌*◌, ◌<◌, ◌≤◌, Bool, true, false, ◌⊎◌, List, [], ◌∷◌, ◌++◌, length, Ok, sym, refl, ap, ◌∙◌, subst, inl, inr, mul-le-mul_right, arith, length-set, eq-eqb}
use Rattle.std.proofs.Math.Path.{subst⁻¹}
use Rattle.std.proofs.lemmas.Bool.{both_ways}
use Rattle.worker_stream.specs.declared.write_stream.job.Turn.{Turn}
use Rattle.worker_stream.specs.declared.write_stream.job.Turn.TheVariants.{NotYet}
use Rattle.stream.specs.Meaning.{open_with, ready}
use Rattle.worker_stream.specs.WorkerCalls.{meaning}
use Rattle.handles.specs.declared.handle.HandleState.{HandleState}
use Rattle.handles.specs.declared.handle.HandleState.TheVariants.{Ready, Locking, Locked, Closed}
use Rattle.handles.specs.declared.handle.Poll.TheVariants.{Pending}
use Rattle.promises.specs.SharedView.{HandleView, dropped as dropped_view, holds, without}
use Rattle.promises.specs.Events.{Event, cancel, turn, handle_flush, handle_drop}
use Rattle.promises.specs.History.{History, start, ◌▷◌, ◌▷▷◌, Call, writes, flushes, Reply, not_yet, answered, polled, dropped, nothing, asked_in, Unanswered, Repeats, Patient, NoCancel, Polled, Rounds, none, other, round, Between, Waiting}
use Rattle.promises.specs.Promises.{InTime}
use Rattle.promises.proofs.Streams.{impossible, WriterBytes, Stream, TurnWay}
use Rattle.promises.proofs.View.{Lock, state_of, mark_of, entry, put, in_state, Open, open_below, Way, passes, tells_fault, writes_directly, flushes_directly, cancels, turns, no_handle, no_handle_to_drop, drops, already_closed, writes_nothing, lines_up, keeps_lock, meets_fault, meets_closed, writes_part, begins_flush, ends_flush, accepts_nothing, waits_event, Path, one_more}
use Rattle.promises.proofs.Accounting.{AccountingOf, path_accounting}
use Rattle.promises.proofs.Queue.{Same, same, apart, same?, position, position_snoc, position_below, position_without, position_falls, in_at_end, occurrences_without_other, holds_without, holder_in_queue, QueueInvariant, path_invariant, queue_within, entered, own_view, other_view}
use Rattle.promises.specs.QueueRule.{queued, occurrences}
use Rattle.promises.proofs.Weight.{is_ready, weight, weight_le, weight_positive, turn_keeps_ready, turn_lightens, turn_no_heavier}
use Rattle.promises.proofs.Patience.{asked_directly, asked_waits, asked_ends, asked_errs, Elsewhere, nothing_elsewhere, other_elsewhere, drop_elsewhere, unanswered_after, none_after_answer, out, waits, Queueing, only_in, empty_out, path_queueing, path_not_cancelled}

-- what holds at every place of a path with patient handles and no cancel
record Invariants (B h : ℕ) (before : List ℕ) (es : History) (s : Stream) (l : Lock) : Type 0 where
  accounts : AccountingOf B before es s
  queue_is : QueueInvariant h l
  queueing : (i : ℕ) → Queueing es l i
  running : s.cancelled ≡ false

invariants : {B h : ℕ} {w : WriterBytes} {es : History} {s : Stream} {l : Lock} → Path B h w es s l → Patient es → NoCancel es → Invariants B h w.taken es s l
invariants p pt nc = record { accounts = path_accounting p; queue_is = path_invariant p; queueing = path_queueing p pt; running = path_not_cancelled p nc }

-- the rounds that a flush has still before its second stage
abbrev first_stage_rounds : ℕ → Call → Bool → ℕ
first_stage_rounds top (writes bytes) mark = 0
first_stage_rounds top flushes false = top
first_stage_rounds top flushes true = 0

abbrev rounds_left : ℕ → ℕ → Call → ℕ → Stream → Lock → ℕ
rounds_left h K a i s l = first_stage_rounds (h * K) a (mark_of i l) + (position i l.queue * K + weight s)

-- the most rounds that a call can have left
abbrev most_rounds : ℕ → Call → ℕ
most_rounds x (writes bytes) = x
most_rounds x flushes = 2 * x

most_rounds_le : (t : ℕ) (a : Call) (mark : Bool) (x : ℕ) → x ≤ t → first_stage_rounds t a mark + x ≤ most_rounds t a
most_rounds_le t (writes bytes) mark x l = omega arith
most_rounds_le t flushes false x l = omega arith
most_rounds_le t flushes true x l = omega arith

fewer : (K x p p' w w' : ℕ) → p' < p → w' ≤ K → 0 < w → x + (p' * K + w') < x + (p * K + w)
fewer K x p p' w w' h a b = let m : suc p' * K ≤ p * K = mul-le-mul_right K h in omega arith

no_more : (K x p p' w w' : ℕ) → p' ≤ p → w' ≤ w → x + (p' * K + w') ≤ x + (p * K + w)
no_more K x p p' w w' h a = let m : p' * K ≤ p * K = mul-le-mul_right K h in omega arith

within : (h K p w : ℕ) → p < h → w ≤ K → p * K + w ≤ h * K
within h K p w l a = let m : suc p * K ≤ h * K = mul-le-mul_right K l in omega arith

-- at a ready stream with p first: after an event it is so still, and the event was no call of p
record StillFirst (p : ℕ) (e : Event) (t : Stream) (m : Lock) : Type 0 where
  still_ready : is_ready t ≡ true
  still_first : holds p m.queue ≡ true
  elsewhere : Elsewhere p (asked_in e)

data Change (r₀ r₁ : ℕ) (e : Event) (s : Stream) (l : Lock) (t : Stream) (m : Lock) : Type 0 where
  falls : r₁ < r₀ → Change r₀ r₁ e s l t m
  keeps : r₁ ≤ r₀ → ((p : ℕ) → is_ready s ≡ true → holds p l.queue ≡ true → StillFirst p e t m) → Change r₀ r₁ e s l t m

-- a patient handle's call that was answered is another's than the one still unanswered
not_the_caller : (es : History) (e : Event) (j i : ℕ) (b a : Call) → asked_in e ≡ polled j b answered → Repeats es (asked_in e) → Unanswered i a (es ▷ e) → ¬ (j ≡ i)
not_the_caller es e j i b a q rep u z = none_after_answer es e j b q (only_in es e j b answered q rep) a (subst⁻¹ (λ (n : ℕ). Unanswered n a (es ▷ e)) z u)

mark_other : (l : Lock) (j i : ℕ) (x : HandleView) (q : List ℕ) → ¬ (j ≡ i) → mark_of i (put j x q l) ≡ mark_of i l
mark_other l j i x q ne = ap (λ (y : HandleView). y.mark) (other_view l j i x q ne)

mark_stays : (l : Lock) (j i : ℕ) (st : HandleState) (q : List ℕ) → Open j l → mark_of i (put j (in_state st (mark_of j l)) q l) ≡ mark_of i l
mark_stays l j i st q op = go (same? j i)
  where
    x : HandleView
    x = in_state st (mark_of j l)

    go : Same j i → mark_of i (put j x q l) ≡ mark_of i l
    go (same e z) = ap (λ (y : HandleView). y.mark) (own_view l j i x q z (open_below j l op)) ∙ ap (λ (n : ℕ). mark_of n l) z
    go (apart e z) = mark_other l j i x q z

not_ready_at_zero : (s : Stream) → meaning s ≡ open_with 0 → is_ready s ≡ true → ⊥
not_ready_at_zero s e r = both_ways (is_ready s) (ap ready e) r

module _ (B h : ℕ) (before : List ℕ) (some_budget : 0 < B) (es : History) (i : ℕ) (a : Call) {s : Stream} {l : Lock} (k : Invariants B h before es s l) (u : Unanswered i a es) where
  abbrev K : ℕ
  K = B + 257

  abbrev left : Stream → Lock → ℕ
  left t m = rounds_left h K a i t m

  abbrev Changes : Event → Stream → Lock → Type 0
  Changes e t m = Change (left s l) (left t m) e s l t m

  -- handle i stands in the queue
  in_queue : 0 < occurrences i l.queue
  in_queue = go (k.queueing i)
    where
      go : Queueing es l i → 0 < occurrences i l.queue
      go (out n o) = absurd (n a u)
      go (waits b v one w o) = let c = k.queue_is.each i in omega arith

  not_empty : l.queue ≡ [] → ⊥
  not_empty e = let c : occurrences i l.queue ≡ 0 = ap (occurrences i) e in let n = in_queue in omega arith

  -- the first of the queue is Locking or Locked
  first_queued : (p : ℕ) → holds p l.queue ≡ true → 0 < queued (state_of p l)
  first_queued p f = let c = k.queue_is.each p in let n = holder_in_queue p l.queue f in omega arith

  first_not : (p j : ℕ) → holds p l.queue ≡ true → queued (state_of j l) ≡ 0 → ¬ (j ≡ p)
  first_not p j f z e = let n = first_queued p f in let c : queued (state_of p l) ≡ 0 = subst (λ (n : ℕ). queued (state_of n l) ≡ 0) e z in omega arith

  positive : 0 < weight s
  positive = weight_positive B before es s k.accounts some_budget

  -- an event that is no handle's call and leaves stream and lock
  nothing_changes : (e : Event) → asked_in e ≡ nothing → Changes e s l
  nothing_changes e q = keeps (omega arith) (λ p r f. record { still_ready = r; still_first = f; elsewhere = nothing_elsewhere p (asked_in e) q })

  -- a call that leaves all as it is, of a handle that is not in the queue
  outsider_changes : (j : ℕ) (e : Event) → ((p : ℕ) → ¬ (j ≡ p) → Elsewhere p (asked_in e)) → queued (state_of j l) ≡ 0 → Changes e s l
  outsider_changes j e others z = keeps (omega arith) (λ p r f. record { still_ready = r; still_first = f; elsewhere = others p (first_not p j f z) })

  -- the first one's call ends: the others move up
  moves_up : (j : ℕ) (e : Event) (t : Stream) (m : Lock) → Open j l → holds j (entry j l) ≡ true → ¬ (j ≡ i) → weight t ≤ K
      → mark_of i m ≡ mark_of i l → position i m.queue ≤ position i (without j (entry j l)) → Changes e t m
  moves_up j e t m op f ne w mk q =
      let n = entered h j l k.queue_is op in
      let x = n.ahead i in_queue in
      let y = position_falls j i (entry j l) ne f in
      falls (rw mk (fewer K (first_stage_rounds (h * K) a (mark_of i l)) (position i l.queue) (position i m.queue) (weight s) (weight t) (omega arith) w positive))

  -- a handle waits, in its place or at the end
  waits_changes : (j : ℕ) (b : Call) (st : HandleState) → Open j l → (is_ready s ≡ true → (p : ℕ) → holds p (entry j l) ≡ true → ¬ (j ≡ p)) → Changes (waits_event j b) s (put j (in_state st (mark_of j l)) (entry j l) l)
  waits_changes j b st op not_first =
      let n = entered h j l k.queue_is op in
      let x = n.ahead i in_queue in
      let m = mark_stays l j i st (entry j l) op in
      keeps (rw m (no_more K (first_stage_rounds (h * K) a (mark_of i l)) (position i l.queue) (position i (entry j l)) (weight s) (weight s) (omega arith) (omega arith)))
      (λ p r g.
      let g' = n.first_stays p g in
      record { still_ready = r; still_first = g'; elsewhere = other_elsewhere p j b not_yet (asked_in (waits_event j b)) (asked_waits j b) (not_first r p g') })

  drop_changes : (j : ℕ) → ¬ (j ≡ i) → Changes (handle_drop j (Ok tt)) s (put j dropped_view (without j l.queue) l)
  drop_changes j ne = go (holds j l.queue) refl
    where
      m : Lock
      m = put j dropped_view (without j l.queue) l

      mk : mark_of i m ≡ mark_of i l
      mk = mark_other l j i dropped_view (without j l.queue) ne

      go : (b : Bool) → holds j l.queue ≡ b → Changes (handle_drop j (Ok tt)) s m
      go true f =
          let y = position_falls j i l.queue ne f in
          falls (rw mk (fewer K (first_stage_rounds (h * K) a (mark_of i l)) (position i l.queue) (position i (without j l.queue)) (weight s) (weight s) y (weight_le B before es s k.accounts some_budget) positive))
      go false f =
          let y = position_without j i l.queue ne in
          keeps (rw mk (no_more K (first_stage_rounds (h * K) a (mark_of i l)) (position i l.queue) (position i (without j l.queue)) (weight s) (weight s) y (omega arith)))
          (λ p r g.
          let np : ¬ (j ≡ p) = λ z. both_ways (holds j l.queue) f (subst (λ (n : ℕ). holds n l.queue ≡ true) (sym z) g) in
          record { still_ready = r; still_first = holds_without p j l.queue np g; elsewhere = drop_elsewhere p j (dropped j) refl np })

  -- a flush's first stage ends: its handle goes to the end of the line
  begin_changes : (j : ℕ) (st : HandleState) (t : Stream) → Open j l → mark_of j l ≡ false → holds j (entry j l) ≡ true
      → Invariants B h before (es ▷ handle_flush j (Ok Pending)) t (put j (in_state st true) (without j (entry j l) ++ j ∷ []) (put j (in_state Ready true) (without j (entry j l)) l))
      → Unanswered i a (es ▷ handle_flush j (Ok Pending)) → Repeats es (polled j flushes not_yet)
      → Changes (handle_flush j (Ok Pending)) t (put j (in_state st true) (without j (entry j l) ++ j ∷ []) (put j (in_state Ready true) (without j (entry j l)) l))
  begin_changes j st t op mk f k' u' rep = go (same? j i)
    where
      q : List ℕ
      q = without j (entry j l) ++ j ∷ []

      l₁ : Lock
      l₁ = put j (in_state Ready true) (without j (entry j l)) l

      m : Lock
      m = put j (in_state st true) q l₁

      light : weight t ≤ K
      light = weight_le B before (es ▷ handle_flush j (Ok Pending)) t k'.accounts some_budget

      lt : j < length l₁.handles
      lt = rw (length-set l.handles j (in_state Ready true)) (open_below j l op)

      go : Same j i → Changes (handle_flush j (Ok Pending)) t m
      go (same e z) =
          let fa : a ≡ flushes = rep a (subst⁻¹ (λ (n : ℕ). Unanswered n a es) z u) in
          let mi : mark_of i l ≡ false = subst (λ (n : ℕ). mark_of n l ≡ false) z mk in
          let m' : mark_of i m ≡ true = ap (λ (y : HandleView). y.mark) (own_view l₁ j i (in_state st true) q z lt) in
          let at_end : 0 < occurrences i q = subst (λ (n : ℕ). 0 < occurrences n q) z (in_at_end j (without j (entry j l))) in
          let b₁ = position_below i q at_end in
          let b₂ = queue_within h m k'.queue_is in
          let x = within h K (position i q) (weight t) (omega arith) light in
          let w = positive in
          falls (rw (fa, mi, m') (omega arith))
      go (apart e z) =
          let m₁ = mark_other l₁ j i (in_state st true) q z in
          let m₂ = mark_other l j i (in_state Ready true) (without j (entry j l)) z in
          let n = entered h j l k.queue_is op in
          let o : 0 < occurrences i (without j (entry j l)) = rw (occurrences_without_other j i (entry j l) z, n.others i z) in_queue in
          moves_up j (handle_flush j (Ok Pending)) t m op f z light (m₁ ∙ m₂) (let ps = position_snoc i j (without j (entry j l)) o in omega arith)

  change : {e : Event} {t : Stream} {m : Lock} → Way s l e t m → Invariants B h before (es ▷ e) t m → Repeats es (asked_in e) → ¬ (e ≡ cancel) → Unanswered i a (es ▷ e) → Changes e t m
  change (passes e x) k' rep nc u' = nothing_changes e (asked_directly e x)
  change (tells_fault e f x h₁ h₂) k' rep nc u' = absurd (not_empty h₁)
  change (writes_directly bytes h₁ h₂ h₃ fits room) k' rep nc u' = absurd (not_empty h₁)
  change (flushes_directly h₁ h₂) k' rep nc u' = absurd (not_empty h₁)
  change cancels k' rep nc u' = absurd (nc refl)
  change (turns x) k' rep nc u' =
      keeps (let w = turn_no_heavier B before es s k.accounts some_budget x k.running in omega arith)
      (λ p r f. record { still_ready = turn_keeps_ready B before es s k.accounts some_budget x r; still_first = f; elsewhere = nothing_elsewhere p nothing refl })
  change {e} (no_handle j b z) k' rep nc u' = outsider_changes j e (λ p ne. other_elsewhere p j b answered (asked_in e) (asked_errs _ j b) ne) (ap queued z)
  change {e} (no_handle_to_drop j z) k' rep nc u' = outsider_changes j e (λ p ne. drop_elsewhere p j (dropped j) refl ne) (ap queued z)
  change (drops j n) k' rep nc u' = drop_changes j (λ z. dropped_none j z u')
    where
      dropped_none : (j : ℕ) → j ≡ i → Unanswered i a (es ▷ handle_drop j (Ok tt)) → ⊥
      dropped_none j z (inl q) = impossible (cc)
      dropped_none j z (inr v) = v.1 (inr (ap dropped z))
  change {e} (already_closed j b z) k' rep nc u' = outsider_changes j e (λ p ne. other_elsewhere p j b answered (asked_in e) (asked_ends j b) ne) (ap queued z)
  change {e} (writes_nothing j op) k' rep nc u' = outsider_changes j e (λ p ne. other_elsewhere p j (writes []) answered (asked_in e) refl ne) (empty_out es j (state_of j l) (k.queueing j) rep)
  change (lines_up j b w op f) k' rep nc u' =
      waits_changes j b Locking op (λ r p g z. both_ways (holds j (entry j l)) f (subst (λ (n : ℕ). holds n (entry j l) ≡ true) (sym z) g))
  change (keeps_lock j b w op f v) k' rep nc u' = waits_changes j b Locked op (λ r p g z. not_ready_at_zero s v r)
  change {e} {t} {m} (meets_fault j b f mark w op x v) k' rep nc u' =
      let ne = not_the_caller es e j i b a (asked_errs _ j b) rep u' in
      moves_up j e t m op x ne (weight_le B before (es ▷ e) t k'.accounts some_budget) (mark_other l j i (in_state Closed mark) (without j (entry j l)) ne) (omega arith)
  change {e} {t} {m} (meets_closed j b mark w op x v) k' rep nc u' =
      let ne = not_the_caller es e j i b a (asked_ends j b) rep u' in
      moves_up j e t m op x ne (weight_le B before (es ▷ e) t k'.accounts some_budget) (mark_other l j i (in_state Closed mark) (without j (entry j l)) ne) (omega arith)
  change {e} {t} {m} (writes_part j b bytes n op x v) k' rep nc u' =
      let ne = not_the_caller es e j i (writes (b ∷ bytes)) a refl rep u' in
      moves_up j e t m op x ne (weight_le B before (es ▷ e) t k'.accounts some_budget) (mark_other l j i (in_state Ready false) (without j (entry j l)) ne) (omega arith)
  change {t = t} (begins_flush j n st c op mk x v) k' rep nc u' = begin_changes j st t op mk x k' u' rep
  change {e} {t} {m} (ends_flush j n op mk x v) k' rep nc u' =
      let ne = not_the_caller es e j i flushes a refl rep u' in
      moves_up j e t m op x ne (weight_le B before (es ▷ e) t k'.accounts some_budget) (mark_other l j i (in_state Ready false) (without j (entry j l)) ne) (omega arith)

  -- the first of the queue, and its call
  call_of_first : (p : ℕ) → holds p l.queue ≡ true → (b : Call) × Unanswered p b es
  call_of_first p f = go (k.queueing p)
    where
      go : Queueing es l p → (b : Call) × Unanswered p b es
      go (out n o) = let x = first_queued p f in absurd (omega arith)
      go (waits b v one w o) = (b, v)

  someone_first : (p : ℕ) × (holds p l.queue ≡ true)
  someone_first = go l.queue in_queue
    where
      go : (q : List ℕ) → 0 < occurrences i q → (p : ℕ) × (holds p q ≡ true)
      go [] n = absurd (omega arith)
      go (x ∷ q) n = (x, eq-eqb x x refl)

  rounds_left_le : left s l ≤ most_rounds (h * K) a
  rounds_left_le =
      let b₁ = position_below i l.queue in_queue in
      let b₂ = queue_within h l k.queue_is in
      most_rounds_le (h * K) a (mark_of i l) (position i l.queue * K + weight s) (within h K (position i l.queue) (weight s) (omega arith) (weight_le B before es s k.accounts some_budget))

  rounds_left_positive : 0 < left s l
  rounds_left_positive = let w = positive in omega arith

turn_of : {s : Stream} {l : Lock} {e : Event} {t : Stream} {m : Lock} (word : Turn) → Way s l e t m → e ≡ turn word → TurnWay s word t × (m ≡ l)
turn_of word (passes e a) q = absurd (subst accepts_nothing q a)
turn_of word (tells_fault e f a h₁ h₂) q = absurd (subst accepts_nothing q a)
turn_of word (writes_directly bytes h₁ h₂ h₃ fits room) q = impossible (cc)
turn_of word (flushes_directly h₁ h₂) q = impossible (cc)
turn_of word cancels q = impossible (cc)
turn_of {s} {t = t} word (turns {word = v} x) q = (subst (λ (y : Turn). TurnWay s y t) (let z : v ≡ word = cc in z) x, refl)
turn_of word (no_handle j (writes bytes) h) q = impossible (cc)
turn_of word (no_handle j flushes h) q = impossible (cc)
turn_of word (no_handle_to_drop j h) q = impossible (cc)
turn_of word (drops j h) q = impossible (cc)
turn_of word (already_closed j (writes bytes) h) q = impossible (cc)
turn_of word (already_closed j flushes h) q = impossible (cc)
turn_of word (writes_nothing j h) q = impossible (cc)
turn_of word (lines_up j (writes bytes) w op h) q = impossible (cc)
turn_of word (lines_up j flushes w op h) q = impossible (cc)
turn_of word (keeps_lock j (writes bytes) w op h v) q = impossible (cc)
turn_of word (keeps_lock j flushes w op h v) q = impossible (cc)
turn_of word (meets_fault j (writes bytes) f mark w op h v) q = impossible (cc)
turn_of word (meets_fault j flushes f mark w op h v) q = impossible (cc)
turn_of word (meets_closed j (writes bytes) mark w op h v) q = impossible (cc)
turn_of word (meets_closed j flushes mark w op h v) q = impossible (cc)
turn_of word (writes_part j b bytes m op h v) q = impossible (cc)
turn_of word (begins_flush j m st h op h₂ h₃ h₄) q = impossible (cc)
turn_of word (ends_flush j m op h₁ h₂ h₃) q = impossible (cc)

-- since a turn: fewer rounds are left, or the stream is ready and the first in the queue has not called
data SinceTurn (r₀ r₁ : ℕ) (es es' later : History) (l : Lock) (t : Stream) (m : Lock) : Type 0 where
  fell : r₁ < r₀ → SinceTurn r₀ r₁ es es' later l t m
  level : (p : ℕ) → r₁ ≤ r₀ → is_ready t ≡ true → holds p l.queue ≡ true → holds p m.queue ≡ true
      → ((c : Call) → ¬ (Polled p c later)) → ((c : Call) → Unanswered p c es → Unanswered p c es') → SinceTurn r₀ r₁ es es' later l t m

since_more : {r₀ r₁ r₂ : ℕ} (es es' later : History) (e : Event) {l m m' : Lock} {t t' : Stream} → SinceTurn r₀ r₁ es es' later l t m → Change r₁ r₂ e t m t' m' → SinceTurn r₀ r₂ es (es' ▷ e) (later ▷ e) l t' m'
since_more es es' later e (fell x) (falls y) = fell (omega arith)
since_more es es' later e (fell x) (keeps y f) = fell (omega arith)
since_more es es' later e (level p x r g₀ g quiet still) (falls y) = fell (omega arith)
since_more es es' later e (level p x r g₀ g quiet still) (keeps y f) =
    let z = f p r g in
    level p (omega arith) z.still_ready g₀ z.still_first (λ c v. silent c v z.elsewhere) (λ c v. unanswered_after es' e p c z.elsewhere (still c v))
  where
    silent : (c : Call) → Polled p c later ⊎ ((r : Reply) × (asked_in e ≡ polled p c r)) → Elsewhere p (asked_in e) → ⊥
    silent c (inl v) o = quiet c v
    silent c (inr v) o = o.no_poll c v.0 v.1

then_assoc : (x y z : History) → (x ▷▷ y) ▷▷ z ≡ x ▷▷ (y ▷▷ z)
then_assoc x y start = refl
then_assoc x y (z ▷ e) = ap (λ (v : History). v ▷ e) (then_assoc x y z)

-- unanswered at each history from `base` on
abbrev pub AllAlong : ℕ → Call → History → History → Type 0
AllAlong i a base start = Unanswered i a base
AllAlong i a base (later ▷ e) = AllAlong i a base later × Unanswered i a (base ▷▷ (later ▷ e))

pub at_last : (i : ℕ) (a : Call) (base later : History) → AllAlong i a base later → Unanswered i a (base ▷▷ later)
at_last i a base start u = u
at_last i a base (later ▷ e) u = u.1

-- a stretch that begins with a turn
record Stretch (B h : ℕ) (w : WriterBytes) (i : ℕ) (a : Call) (es es' later : History) (t : Stream) (m : Lock) : Type 0 where
  s : Stream
  l : Lock
  path : Path B h w es s l
  patient : Patient es
  no_cancel : NoCancel es
  since : SinceTurn (rounds_left h (B + 257) a i s l) (rounds_left h (B + 257) a i t m) es es' later l t m

module _ (B h : ℕ) (w : WriterBytes) (some_budget : 0 < B) (i : ℕ) (a : Call) where
  abbrev left_at : Stream → Lock → ℕ
  left_at s l = rounds_left h (B + 257) a i s l

  since_turn : (es : History) (s t : Stream) (l : Lock) (word : Turn) → Invariants B h w.taken es s l → Unanswered i a es → TurnWay s word t → ¬ (word ≡ NotYet)
      → SinceTurn (left_at s l) (left_at t l) es (es ▷ turn word) start l t l
  since_turn es s t l word k u x nw =
      let p = someone_first B h w.taken some_budget es i a k u in
      let v = turn_no_heavier B w.taken es s k.accounts some_budget x k.running in
      go p v (turn_lightens B w.taken es s k.accounts some_budget x k.running nw)
    where
      go : ((p : ℕ) × (holds p l.queue ≡ true)) → weight t ≤ weight s → (is_ready t ≡ true) ⊎ (weight t < weight s) → SinceTurn (left_at s l) (left_at t l) es (es ▷ turn word) start l t l
      go p v (inl r) = level p.0 (omega arith) r p.1 p.1 (λ c z. z) (λ c z. unanswered_after es (turn word) p.0 c (nothing_elsewhere p.0 nothing refl) z)
      go p v (inr y) = fell (omega arith)

  stretch : (es : History) (word : Turn) (later : History) {t : Stream} {m : Lock} → ¬ (word ≡ NotYet) → Path B h w ((es ▷ turn word) ▷▷ later) t m → Patient ((es ▷ turn word) ▷▷ later) → NoCancel ((es ▷ turn word) ▷▷ later)
      → Unanswered i a es → AllAlong i a (es ▷ turn word) later → Stretch B h w i a es ((es ▷ turn word) ▷▷ later) later t m
  stretch es word start {t} {m} nw (one_more {s = s₀} {l = l₀} p x) pt nc u along =
      let y = turn_of word x refl in
      record {
        s = s₀;
        l = l₀;
        path = p;
        patient = pt.0;
        no_cancel = nc.0;
        since =
            subst⁻¹ (λ (z : Lock). SinceTurn (left_at s₀ l₀) (left_at t z) es (es ▷ turn word) start l₀ t z) y.1
            (since_turn es s₀ t l₀ word (invariants p pt.0 nc.0) u y.0 nw);
      }
  stretch es word (later ▷ e) nw (one_more p x) pt nc u along =
      let st = stretch es word later nw p pt.0 nc.0 u along.0 in
      let es' = (es ▷ turn word) ▷▷ later in
      let c = change B h w.taken some_budget es' i a (invariants p pt.0 nc.0) (at_last i a (es ▷ turn word) later along.0) x (invariants (one_more p x) pt nc) pt.1 nc.1 along.1 in
      record { s = st.s; l = st.l; path = st.path; patient = st.patient; no_cancel = st.no_cancel; since = since_more es es' later e st.since c }

  -- a full round leaves fewer rounds
  round_falls : (es es' later : History) {t : Stream} {m : Lock} → ((j : ℕ) (b : Call) → Unanswered j b es → Unanswered j b es' → Polled j b later) → Unanswered i a es
      → (st : Stretch B h w i a es es' later t m) → left_at t m < left_at st.s st.l
  round_falls es es' later {t} {m} polls u st = go st.since
    where
      go : SinceTurn (left_at st.s st.l) (left_at t m) es es' later st.l t m → left_at t m < left_at st.s st.l
      go (fell x) = x
      go (level p x r g₀ g quiet still) =
          let b = call_of_first B h w.taken some_budget es i a (invariants st.path st.patient st.no_cancel) u p g₀ in
          absurd (quiet b.0 (polls p b.0 b.1 (still b.0 b.1)))

  abbrev Unbroken : History → History → Type 0
  Unbroken from es = (mid : History) → Between from mid es → Unanswered i a mid

  extends : {from es : History} {n : ℕ} → Rounds from n es → (since : History) × (es ≡ from ▷▷ since)
  extends none = (start, refl)
  extends (other r e) = let x = extends r in (x.0 ▷ e, ap (λ (v : History). v ▷ e) x.1)
  extends (round r d) =
      let x = extends r in
      ((x.0 ▷ turn d.word) ▷▷ d.later, d.shape ∙ ap (λ (v : History). (v ▷ turn d.word) ▷▷ d.later) x.1 ∙ then_assoc _ (x.0 ▷ turn d.word) d.later)

  at_end : {from es : History} {n : ℕ} → Rounds from n es → Unbroken from es → Unanswered i a es
  at_end {es = es} r b = let x = extends r in b es (record { since = x.0; later = start; from = x.1; to = refl })

  -- what is unbroken is so up to any earlier history
  shorter : {from es es' : History} (later : History) → es' ≡ es ▷▷ later → Unbroken from es' → Unbroken from es
  shorter later q b mid x =
      b mid (record { since = x.since; later = x.later ▷▷ later; from = x.from; to = q ∙ ap (λ (v : History). v ▷▷ later) x.to ∙ then_assoc mid x.later later })

  all_along : {from es' : History} (base since later rest : History) → base ≡ from ▷▷ since → es' ≡ (base ▷▷ later) ▷▷ rest → Unbroken from es' → AllAlong i a base later
  all_along base since start rest p q b = b base (record { since = since; later = rest; from = p; to = q })
  all_along {from} base since (later ▷ e) rest p q b = (
    all_along base since later ((start ▷ e) ▷▷ rest) p (q ∙ then_assoc (base ▷▷ later) (start ▷ e) rest) b,
    b (base ▷▷ (later ▷ e)) (record { since = since ▷▷ (later ▷ e); later = rest; from = ap (λ (v : History). (v ▷▷ later) ▷ e) p ∙ ap (λ (v : History). v ▷ e) (then_assoc from since later); to = q }),
  )

  counted : {from es : History} {n : ℕ} {s : Stream} {l : Lock} → Rounds from n es → Path B h w es s l → Patient es → NoCancel es → Unbroken from es → left_at s l + n ≤ most_rounds (h * (B + 257)) a
  counted {from} none p pt nc b =
      let x = rounds_left_le B h w.taken some_budget from i a (invariants p pt nc) (at_end none b) in omega arith
  counted (other {n = n} {es' = es₀} r e) (one_more p x) pt nc b =
      let b₀ = shorter (start ▷ e) refl b in
      let ih = counted r p pt.0 nc.0 b₀ in
      let c = change B h w.taken some_budget es₀ i a (invariants p pt.0 nc.0) (at_end r b₀) x (invariants (one_more p x) pt nc) pt.1 nc.1 (at_end (other r e) b) in
      go n c ih
    where
      go : {r₀ r₁ : ℕ} {e : Event} {s : Stream} {l : Lock} {t : Stream} {m : Lock} (n : ℕ) → Change r₀ r₁ e s l t m → r₀ + n ≤ most_rounds (h * (B + 257)) a → r₁ + n ≤ most_rounds (h * (B + 257)) a
      go n (falls y) z = omega arith
      go n (keeps y f) z = omega arith
  counted {from} {es} {s = t} {l = m} (round {n = n} {es' = es₀} r d) p pt nc b =
      let q = d.shape in
      let base = es₀ ▷ turn d.word in
      let x = extends r in
      let b₀ = shorter ((start ▷ turn d.word) ▷▷ d.later) (q ∙ then_assoc es₀ (start ▷ turn d.word) d.later) b in
      let u = at_end r b₀ in
      let along = all_along base (x.0 ▷ turn d.word) d.later start (ap (λ (v : History). v ▷ turn d.word) x.1) q b in
      let st = stretch es₀ d.word d.later d.progress (subst (λ (v : History). Path B h w v t m) q p) (subst Patient q pt) (subst NoCancel q nc) u along in
      let ih = counted r st.path st.patient st.no_cancel b₀ in
      let f = round_falls es₀ (base ▷▷ d.later) d.later (subst (λ (v : History). (j : ℕ) (c : Call) → Unanswered j c es₀ → Unanswered j c v → Polled j c d.later) q d.polls) u st in
      omega arith

  bounded : {n : ℕ} {es : History} {s : Stream} {l : Lock} → Waiting i a n es → Path B h w es s l → Patient es → NoCancel es → n < most_rounds (h * (B + 257)) a
  bounded {n} {es} {s} {l} x p pt nc =
      let c = counted x.rounds p pt nc x.unbroken in
      let y = rounds_left_positive B h w.taken some_budget es i a (invariants p pt nc) (at_end x.rounds x.unbroken) in
      omega arith

pub in_time : {B h : ℕ} {w : WriterBytes} {es : History} {s : Stream} {l : Lock} → 0 < B → Path B h w es s l → NoCancel es → Patient es → InTime B h es
in_time {B} {h} {w} some_budget p nc pt =
    record {
      write = λ i n bytes x. bounded B h w some_budget i (writes bytes) x p pt nc;
      flush = λ i n x. bounded B h w some_budget i flushes x p pt nc;
    }
