-- Done means flushed: a handle's flush that answers done has covered what was accepted before it began.
-- Assumes nothing.
use Rattle.std.proofs.Common.{◌≡◌, ℕ, zero, suc, ◌+◌, ◌<◌, ◌≤◌, min, Bool, true, false, cond, eqb, ◌⊎◌, List, [], ◌∷◌, ◌++◌, length, get_or, take, replicate, Some, Ok, Err, Option, sym, refl, ap, ◌∙◌, subst, inl, inr, append-nil, arith, length-append}
use mathlib.Core.List.{flatten}
use Rattle.std.proofs.Math.Seq.{take-append-le}
use Rattle.std.proofs.lemmas.Bool.{both_ways}
use Rattle.worker_stream.specs.StoreView.{oldest}
use Rattle.worker_stream.specs.declared.write_stream.job.Turn.{Turn}
use Rattle.worker_stream.specs.declared.write_stream.worker.Status.TheVariants.{Alive}
use Rattle.handles.specs.declared.handle.HandleState.{HandleState}
use Rattle.handles.specs.declared.handle.HandleState.TheVariants.{Ready, Locking, Locked, Closed}
use Rattle.handles.specs.Errors.{HandleError}
use Rattle.handles.specs.declared.handle.Poll.TheVariants.{Ready as Answer, Pending}
use Rattle.promises.specs.SharedView.{HandleView, dropped, without}
use Rattle.promises.specs.Events.{Event, write, check, flush, cancel, turn, handle_write, handle_flush, handle_drop}
use Rattle.promises.specs.History.{History, start, ◌▷◌, accepted_by, accepted, on_turn, finished_in, finished_lengths, Call, writes, flushes, from_first, flush_after, present_flush, began}
use Rattle.promises.specs.Promises.{total, Covered}
use Rattle.promises.proofs.Streams.{impossible, WriterBytes, Stream, TurnWay, stops, finishing, moving, waiting, failing, covering, idle, permits_of}
use Rattle.promises.proofs.View.{Lock, view_of, state_of, mark_of, entry, put, in_state, is_open, Open, open_below, Way, passes, tells_fault, writes_directly, flushes_directly, cancels, turns, no_handle, no_handle_to_drop, drops, already_closed, writes_nothing, lines_up, keeps_lock, meets_fault, meets_closed, writes_part, begins_flush, ends_flush, accepts_nothing, waits_event, ends_event, error_event, Path, fresh_path, one_more}
use Rattle.promises.proofs.Accounting.{AccountingOf, path_accounting, count_finished}
use Rattle.promises.proofs.Queue.{Same, same, apart, same?, there_below, own_view, other_view}

length_flatten : (us : List (List ℕ)) → length (flatten us) ≡ total us
unfolding flatten
length_flatten [] = refl
length_flatten (u ∷ us) = let k = length_flatten us in let l = length-append u (flatten us) in omega arith

total_take : (n : ℕ) (us : List (List ℕ)) → total (take n us) ≤ total us
total_take zero us = omega arith
total_take (suc n) [] = omega arith
total_take (suc n) (u ∷ us) = let k = total_take n us in omega arith

-- the writes accepted before a flush began are no more than were accepted
present_by : (e : Event) (i : ℕ) (o : Option ℕ) (n k : ℕ) → ((x : ℕ) → o ≡ Some x → x ≤ n) → flush_after i e o n ≡ Some k → k ≤ n
present_by e i o n k h q = grind arith

present_le : (es : History) (i n : ℕ) → present_flush i es ≡ Some n → n ≤ length (accepted es)
present_le start i n e = impossible (cc)
present_le (es ▷ e) i n q =
    let k = present_by e i (present_flush i es) (length (accepted es)) n (λ x. present_le es i x) q in
    let l = length-append (accepted es) (accepted_by e) in
    omega arith

-- the first n accepted writes are finished, and covered
record Reached (before : List ℕ) (es : History) (covered n : ℕ) : Type 0 where
  finished : n ≤ length (finished_lengths es)
  count : length before + total (take n (accepted es)) ≤ covered

-- the stream's flush is pending, or covered reaches that far
abbrev Due : List ℕ → History → Bool → ℕ → ℕ → Type 0
Due before es pending covered n = (pending ≡ true) ⊎ Reached before es covered n

due_after : (before : List ℕ) (es : History) (e : Event) (p : Bool) (c n : ℕ) → n ≤ length (accepted es) → Due before es p c n → Due before (es ▷ e) p c n
due_after before es e p c n le (inl h) = inl h
due_after before es e p c n le (inr h) =
    inr (record {
      finished = let l = length-append (finished_lengths es) (on_turn e finished_in []) in let k = h.finished in omega arith;
      count = rw (take-append-le n (accepted es) (accepted_by e) le) h.count;
    })

all_reached : (B : ℕ) (before : List ℕ) (es : History) (s : Stream) (n : ℕ) → AccountingOf B before es s → s.unfinished ≡ [] → n ≤ length (accepted es)
    → Reached before es (length s.writer.taken) n
all_reached B before es s n k e le =
    let acc : accepted es ≡ k.finished = k.splits ∙ ap (λ (u : List (List ℕ)). k.finished ++ u) e ∙ append-nil k.finished in
    let x = count_finished B before es s k in
    let y = ap length acc in
    let z = ap length k.bytes in
    let l₁ = length-append (before ++ flatten k.finished) (take s.progress (oldest s.unfinished)) in
    let l₂ = length-append before (flatten k.finished) in
    let l₃ = length_flatten k.finished in
    let l₄ : total (take n (accepted es)) ≤ total k.finished = rw acc (total_take n k.finished) in
    record { finished = omega arith; count = omega arith }

-- what was due before an event is due after it, where the stream is alive after it
record StillDue (before : List ℕ) (es : History) (e : Event) (n : ℕ) (s t : Stream) : Type 0 where
  was_alive : s.status ≡ Alive
  still : Due before es s.pending s.writer.covered n → Due before (es ▷ e) t.pending t.writer.covered n

module _ (B : ℕ) (before : List ℕ) (es : History) (n : ℕ) where
  turn_due : (s : Stream) {word : Turn} {t : Stream} → TurnWay s word t → AccountingOf B before es s → n ≤ length (accepted es) → t.status ≡ Alive → StillDue before es (turn word) n s t
  turn_due s {word} (stops h) k le w = record { was_alive = w; still = due_after before es (turn word) s.pending s.writer.covered n le }
  turn_due s {word} (finishing u us h eq) k le w = record { was_alive = h; still = due_after before es (turn word) s.pending s.writer.covered n le }
  turn_due s {word} (moving u us m h eq lt) k le w = record { was_alive = h; still = due_after before es (turn word) s.pending s.writer.covered n le }
  turn_due s {word} waiting k le w = record { was_alive = w; still = due_after before es (turn word) s.pending s.writer.covered n le }
  turn_due s {word} (failing f h) k le w = impossible (cc)
  turn_due s {word} (covering h₁ h₂ h₃) k le w =
      record { was_alive = h₁; still = λ _. due_after before es (turn word) false (length s.writer.taken) n le (inr (all_reached B before es s n k h₂ le)) }
  turn_due s {word} (idle h₁ h₂ h₃) k le w = record { was_alive = h₁; still = due_after before es (turn word) s.pending s.writer.covered n le }

  way_due : {s : Stream} {l : Lock} {e : Event} {t : Stream} {m : Lock} → Way s l e t m → AccountingOf B before es s → n ≤ length (accepted es) → t.status ≡ Alive → StillDue before es e n s t
  way_due {s} {e = e} (passes _ a) k le w = record { was_alive = w; still = due_after before es e s.pending s.writer.covered n le }
  way_due (tells_fault e f a h₁ h₂) k le w = impossible (cc)
  way_due {s} {e = e} (writes_directly bytes h₁ h₂ h₃ fits room) k le w = record { was_alive = w; still = due_after before es e s.pending s.writer.covered n le }
  way_due (flushes_directly h₁ h₂) k le w = record { was_alive = w; still = λ _. inl refl }
  way_due {s} {e = e} cancels k le w = record { was_alive = w; still = due_after before es e s.pending s.writer.covered n le }
  way_due {s} (turns t) k le w = turn_due s t k le w
  way_due {s} {e = e} (no_handle i a h) k le w = record { was_alive = w; still = due_after before es e s.pending s.writer.covered n le }
  way_due {s} {e = e} (no_handle_to_drop i h) k le w = record { was_alive = w; still = due_after before es e s.pending s.writer.covered n le }
  way_due {s} {e = e} (drops i h) k le w = record { was_alive = w; still = due_after before es e s.pending s.writer.covered n le }
  way_due {s} {e = e} (already_closed i a h) k le w = record { was_alive = w; still = due_after before es e s.pending s.writer.covered n le }
  way_due {s} {e = e} (writes_nothing i h) k le w = record { was_alive = w; still = due_after before es e s.pending s.writer.covered n le }
  way_due {s} {e = e} (lines_up i a h h₁ h₂) k le w = record { was_alive = w; still = due_after before es e s.pending s.writer.covered n le }
  way_due {s} {e = e} (keeps_lock i a h h₁ h₂ h₃) k le w = record { was_alive = w; still = due_after before es e s.pending s.writer.covered n le }
  way_due (meets_fault i a f mark h h₁ h₂ h₃) k le w = impossible (cc)
  way_due {s} {e = e} (meets_closed i a mark h h₁ h₂ h₃) k le w = record { was_alive = w; still = due_after before es e s.pending s.writer.covered n le }
  way_due {s} {e = e} (writes_part i b bytes m h h₁ h₂) k le w = record { was_alive = w; still = due_after before es e s.pending s.writer.covered n le }
  way_due (begins_flush i m st h h₁ h₂ h₃ h₄) k le w = record { was_alive = w; still = λ _. inl refl }
  way_due {s} {e = e} (ends_flush i m h h₁ h₂ h₃) k le w = record { was_alive = w; still = due_after before es e s.pending s.writer.covered n le }

-- handle i with its mark set
record Marked (i : ℕ) (l : Lock) : Type 0 where
  open_still : Open i l
  mark_set : mark_of i l ≡ true

-- an event after which handle i's flush in progress is in progress still
abbrev Keeps : History → Event → ℕ → Type 0
Keeps es e i = (n : ℕ) → present_flush i es ≡ Some n → present_flush i (es ▷ e) ≡ Some n

-- with its mark set after an event, handle i had it before and its flush goes on, or its flush is just begun
data MarkedBefore (es : History) (e : Event) (i : ℕ) (l : Lock) (pending : Bool) : Type 0 where
  had : Marked i l → Keeps es e i → MarkedBefore es e i l pending
  new : (n : ℕ) → pending ≡ true → present_flush i (es ▷ e) ≡ Some n → MarkedBefore es e i l pending

module _ (es : History) (i : ℕ) where
  direct_keeps : (e : Event) → accepts_nothing e → Keeps es e i
  direct_keeps (write bytes (Ok u)) a = absurd a
  direct_keeps (write bytes (Err x)) a = λ n b. b
  direct_keeps (check r) a = λ n b. b
  direct_keeps (flush (Ok u)) a = absurd a
  direct_keeps (flush (Err x)) a = λ n b. b
  direct_keeps cancel a = absurd a
  direct_keeps (turn word) a = absurd a
  direct_keeps (handle_write j bytes r) a = absurd a
  direct_keeps (handle_flush j r) a = absurd a
  direct_keeps (handle_drop j r) a = absurd a

  -- a call that waits
  waits_keeps : (j : ℕ) (a : Call) → Keeps es (waits_event j a) i
  waits_keeps j (writes bytes) n b = go (eqb j i)
    where
      go : (t : Bool) → cond t (present_flush i es) (present_flush i es) ≡ Some n
      go true = b
      go false = b
  waits_keeps j flushes n b = go (eqb j i)
    where
      go : (t : Bool) → cond t (Some (from_first (present_flush i es) (length (accepted es)))) (present_flush i es) ≡ Some n
      go true = rw b
      go false = b

  -- a call of another handle
  error_keeps : (x : HandleError) (j : ℕ) (a : Call) → eqb j i ≡ false → Keeps es (error_event x j a) i
  error_keeps x j (writes bytes) e n b = rw e b
  error_keeps x j flushes e n b = rw e b

  ends_keeps : (j : ℕ) (a : Call) → eqb j i ≡ false → Keeps es (ends_event j a) i
  ends_keeps j (writes bytes) e n b = rw e b
  ends_keeps j flushes e n b = rw e b

  module _ (l : Lock) (pending : Bool) where
    -- a handle that was put closed, dropped or unmarked is not marked
    not_marked : (m : Lock) (x : HandleView) → view_of i m ≡ x → (is_open x.state ≡ false) ⊎ (x.mark ≡ false) → Marked i m → ⊥
    not_marked m x e (inl h) mk = both_ways (is_open x.state) h (subst (λ (y : HandleView). is_open y.state ≡ true) e mk.open_still)
    not_marked m x e (inr h) mk = both_ways x.mark h (subst (λ (y : HandleView). y.mark ≡ true) e mk.mark_set)

    marked_other : (m : Lock) → view_of i m ≡ view_of i l → Marked i m → Marked i l
    marked_other m e mk = record { open_still = subst (λ (y : HandleView). is_open y.state ≡ true) e mk.open_still; mark_set = subst (λ (y : HandleView). y.mark ≡ true) e mk.mark_set }

    -- handle j leaves the queue unmarked, closed or dropped
    unmarked_before : (j : ℕ) (e : Event) (x : HandleView) (q : List ℕ) → (is_open x.state ≡ false) ⊎ (x.mark ≡ false) → j < length l.handles → (eqb j i ≡ false → Keeps es e i)
        → Marked i (put j x q l) → MarkedBefore es e i l pending
    unmarked_before j e x q bad lt keeps mk = go (same? j i)
      where
        go : Same j i → MarkedBefore es e i l pending
        go (same t z) = absurd (not_marked (put j x q l) x (own_view l j i x q z lt) bad mk)
        go (apart t z) = had (marked_other (put j x q l) (other_view l j i x q z) mk) (keeps t)

    -- handle j stays in the queue
    waiting_before : (j : ℕ) (a : Call) (st : HandleState) (q : List ℕ) → Open j l → Marked i (put j (in_state st (mark_of j l)) q l) → MarkedBefore es (waits_event j a) i l pending
    waiting_before j a st q op mk = go (same? j i)
      where
        x : HandleView
        x = in_state st (mark_of j l)

        go : Same j i → MarkedBefore es (waits_event j a) i l pending
        go (same t z) =
            let h : view_of i (put j x q l) ≡ x = own_view l j i x q z (open_below j l op) in
            had
            (record {
              open_still = subst (λ (k : ℕ). Open k l) z op;
              mark_set = ap (λ (k : ℕ). mark_of k l) (sym z) ∙ sym (ap (λ (y : HandleView). y.mark) h) ∙ mk.mark_set;
            })
            (waits_keeps j a)
        go (apart t z) = had (marked_other (put j x q l) (other_view l j i x q z) mk) (waits_keeps j a)

    -- a handle that is not open
    unopened_before : (j : ℕ) (e : Event) → is_open (state_of j l) ≡ false → (eqb j i ≡ false → Keeps es e i) → Marked i l → MarkedBefore es e i l pending
    unopened_before j e bad keeps mk = go (same? j i)
      where
        go : Same j i → MarkedBefore es e i l pending
        go (same t z) = absurd (both_ways (is_open (state_of i l)) (subst (λ (k : ℕ). is_open (state_of k l) ≡ false) z bad) mk.open_still)
        go (apart t z) = had mk (keeps t)

  begun_before : (j : ℕ) (l : Lock) (st : HandleState) (q q' : List ℕ) → Open j l → Marked i (put j (in_state st true) q' (put j (in_state Ready true) q l)) → MarkedBefore es (handle_flush j (Ok Pending)) i l true
  begun_before j l st q q' op mk = go (same? j i)
    where
      go : Same j i → MarkedBefore es (handle_flush j (Ok Pending)) i l true
      go (same t z) = new (from_first (present_flush i es) (length (accepted es))) refl (rw t)
      go (apart t z) =
          let m = put j (in_state Ready true) q l in
          had (marked_other l true (put j (in_state st true) q' m) (other_view m j i (in_state st true) q' z ∙ other_view l j i (in_state Ready true) q z) mk) (waits_keeps j flushes)

  empty_before : (j : ℕ) (l : Lock) (pending : Bool) → Marked i l → MarkedBefore es (handle_write j [] (Ok (Answer 0))) i l pending
  empty_before j l pending mk = go (same? j i)
    where
      go : Same j i → MarkedBefore es (handle_write j [] (Ok (Answer 0))) i l pending
      go (same t z) = had mk (λ n b. rw t b)
      go (apart t z) = had mk (λ n b. rw t b)

  marked_before : {s : Stream} {l : Lock} {e : Event} {t : Stream} {m : Lock} → Way s l e t m → Marked i m → MarkedBefore es e i l t.pending
  marked_before (passes e a) mk = had mk (direct_keeps e a)
  marked_before (tells_fault e f a h₁ h₂) mk = had mk (direct_keeps e a)
  marked_before (writes_directly bytes h₁ h₂ h₃ fits room) mk = had mk (λ n b. b)
  marked_before (flushes_directly h₁ h₂) mk = had mk (λ n b. b)
  marked_before cancels mk = had mk (λ n b. b)
  marked_before (turns t) mk = had mk (λ n b. b)
  marked_before {s} {l} (no_handle j a h) mk = unopened_before l s.pending j (error_event _ j a) (ap is_open h) (error_keeps _ j a) mk
  marked_before (no_handle_to_drop j h) mk = had mk (λ n b. b)
  marked_before {s} {l} (drops j h) mk = unmarked_before l s.pending j (handle_drop j (Ok tt)) dropped (without j l.queue) (inl refl) (there_below j l h) (λ _ n b. b) mk
  marked_before {s} {l} (already_closed j a h) mk = unopened_before l s.pending j (ends_event j a) (ap is_open h) (ends_keeps j a) mk
  marked_before {s} {l} (writes_nothing j h) mk = empty_before j l s.pending mk
  marked_before {s} {l} (lines_up j a w op h) mk = waiting_before l s.pending j a Locking (entry j l) op mk
  marked_before {s} {l} (keeps_lock j a w op h v) mk = waiting_before l s.pending j a Locked (entry j l) op mk
  marked_before {s} {l} (meets_fault j a f mark w op h v) mk =
      unmarked_before l s.pending j (error_event _ j a) (in_state Closed mark) (without j (entry j l)) (inl refl) (open_below j l op) (error_keeps _ j a) mk
  marked_before {s} {l} (meets_closed j a mark w op h v) mk =
      unmarked_before l s.pending j (ends_event j a) (in_state Closed mark) (without j (entry j l)) (inl refl) (open_below j l op) (ends_keeps j a) mk
  marked_before {s} {l} (writes_part j b bytes n op h v) mk =
      unmarked_before l s.pending j (handle_write j (b ∷ bytes) (Ok (Answer (min (suc n) (length (b ∷ bytes)))))) (in_state Ready false) (without j (entry j l)) (inr refl) (open_below j l op) (λ t n c. rw t c) mk
  marked_before {s} {l} (begins_flush j n st c op h₂ h₃ h₄) mk = begun_before j l st (without j (entry j l)) (without j (entry j l) ++ j ∷ []) op mk
  marked_before {s} {l} (ends_flush j n op h₁ h₂ h₃) mk =
      unmarked_before l s.pending j (handle_flush j (Ok (Answer tt))) (in_state Ready false) (without j (entry j l)) (inr refl) (open_below j l op) (λ t n c. rw t c) mk

-- a handle's mark stands for a flush in progress that is pending or has reached all that was accepted before it
record InProgress (before : List ℕ) (es : History) (i : ℕ) (s : Stream) : Type 0 where
  number : ℕ
  since : present_flush i es ≡ Some number
  due : Due before es s.pending s.writer.covered number

fresh_unmarked : (n i : ℕ) → (get_or (replicate n (in_state Ready false)) i dropped).mark ≡ false
fresh_unmarked zero i = refl
fresh_unmarked (suc n) zero = refl
fresh_unmarked (suc n) (suc i) = fresh_unmarked n i

progress_after : (B : ℕ) (before : List ℕ) (es : History) (i : ℕ) {s : Stream} {l : Lock} {e : Event} {t : Stream} {m : Lock} → Way s l e t m → AccountingOf B before es s → t.status ≡ Alive
    → (s.status ≡ Alive → Marked i l → InProgress before es i s) → MarkedBefore es e i l t.pending → InProgress before (es ▷ e) i t
progress_after B before es i x k w ih (new n p b) = record { number = n; since = b; due = inl p }
progress_after B before es i x k w ih (had mk keeps) =
    let u = ih (way_due B before es 0 x k (omega arith) w).was_alive mk in
    let n = u.number in
    record { number = n; since = keeps n u.since; due = (way_due B before es n x k (present_le es i n u.since) w).still u.due }

path_progress : {B h : ℕ} {w : WriterBytes} {es : History} {s : Stream} {l : Lock} → Path B h w es s l → (i : ℕ) → s.status ≡ Alive → Marked i l → InProgress w.taken es i s
path_progress {h = h} fresh_path i a mk = absurd (both_ways _ (fresh_unmarked h i) mk.mark_set)
path_progress {B} {w = w} (one_more {es = es} p x) i a mk = progress_after B w.taken es i x (path_accounting p) a (path_progress p i) (marked_before es i x mk)

-- the one way by which a flush is done and its handle stays open
record DoneOpen (i : ℕ) (s : Stream) (l : Lock) (t : Stream) : Type 0 where
  marked : Marked i l
  live : s.status ≡ Alive
  no_flush : s.pending ≡ false
  same_count : t.writer.covered ≡ s.writer.covered

done_open : (i : ℕ) {s : Stream} {l : Lock} {e : Event} {t : Stream} {m : Lock} → Way s l e t m → e ≡ handle_flush i (Ok (Answer tt)) → ¬ (state_of i m ≡ Closed) → DoneOpen i s l t
done_open i (passes e a) q n = absurd (subst accepts_nothing q a)
done_open i (tells_fault e f a h₁ h₂) q n = absurd (subst accepts_nothing q a)
done_open i (writes_directly bytes h₁ h₂ h₃ fits room) q n = impossible (cc)
done_open i (flushes_directly h₁ h₂) q n = impossible (cc)
done_open i cancels q n = impossible (cc)
done_open i (turns t) q n = impossible (cc)
done_open i (no_handle j (writes bytes) h) q n = impossible (cc)
done_open i (no_handle j flushes h) q n = impossible (cc)
done_open i (no_handle_to_drop j h) q n = impossible (cc)
done_open i (drops j h) q n = impossible (cc)
done_open i (already_closed j (writes bytes) h) q n = impossible (cc)
done_open i {l = l} (already_closed j flushes h) q n = let z : j ≡ i = cc in absurd (n (subst (λ (k : ℕ). state_of k l ≡ Closed) z h))
done_open i (writes_nothing j h) q n = impossible (cc)
done_open i (lines_up j (writes bytes) w op h) q n = impossible (cc)
done_open i (lines_up j flushes w op h) q n = impossible (cc)
done_open i (keeps_lock j (writes bytes) w op h v) q n = impossible (cc)
done_open i (keeps_lock j flushes w op h v) q n = impossible (cc)
done_open i (meets_fault j (writes bytes) f mark w op h v) q n = impossible (cc)
done_open i (meets_fault j flushes f mark w op h v) q n = impossible (cc)
done_open i (meets_closed j (writes bytes) mark w op h v) q n = impossible (cc)
done_open i {l = l} (meets_closed j flushes mark w op h v) q n =
    let z : j ≡ i = cc in
    absurd (n (ap (λ (x : HandleView). x.state) (own_view l j i (in_state Closed mark) (without j (entry j l)) z (open_below j l op))))
done_open i (writes_part j b bytes m op h v) q n = impossible (cc)
done_open i (begins_flush j m st h op h₂ h₃ h₄) q n = impossible (cc)
done_open i {s} {l} (ends_flush j m op h₁ h₂ h₃) q n =
    let z : j ≡ i = cc in
    let p = permits_of s m h₃ in
    record { marked = subst (λ (k : ℕ). Marked k l) z (record { open_still = op; mark_set = h₁ }); live = p.is_live; no_flush = p.no_flush; same_count = refl }

reached : (before : List ℕ) (es : History) (p : Bool) (c k : ℕ) → p ≡ false → Due before es p c k → Reached before es c k
reached before es p c k e (inl x) = absurd (both_ways p e x)
reached before es p c k e (inr x) = x

covered_at : (before : List ℕ) (es : History) (i c c' k : ℕ) → began i es ≡ k → c' ≡ c → Reached before es c k → Covered before es i c'
covered_at before es i c c' k e f t = record { finished = rw e t.finished; count = rw (e, f) t.count }

pub done_covers : {B h : ℕ} {w : WriterBytes} {es : History} {e : Event} {s : Stream} {l : Lock} (i : ℕ) → Path B h w (es ▷ e) s l → e ≡ handle_flush i (Ok (Answer tt)) → ¬ (state_of i l ≡ Closed)
    → Covered w.taken es i s.writer.covered
done_covers {w = w} {es} {s = t} i (one_more {s = s} p x) q n =
    let d = done_open i x q n in
    let u = path_progress p i d.live d.marked in
    covered_at w.taken es i s.writer.covered t.writer.covered u.number (ap (λ (o : Option ℕ). from_first o (length (accepted es))) u.since) d.same_count
    (reached w.taken es s.pending s.writer.covered u.number d.no_flush u.due)
