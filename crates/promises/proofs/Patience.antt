-- With patient handles, a handle stands in the queue exactly while a call of it is unanswered.
-- Assumes nothing.
use Rattle.std.proofs.Common.{◌≡◌, ℕ, ◌<◌, true, false, List, [], ◌∷◌, ◌++◌, length, Ok, Err, sym, refl, ap, ◌∙◌, subst, inl, inr, length-set}
use Rattle.std.proofs.Math.Path.{subst⁻¹}
use Rattle.worker_stream.specs.declared.write_stream.job.Turn.{Turn}
use Rattle.handles.specs.declared.handle.HandleState.{HandleState}
use Rattle.handles.specs.declared.handle.HandleState.TheVariants.{Ready, Locking, Locked, Closed}
use Rattle.handles.specs.Errors.{HandleError}
use Rattle.promises.specs.SharedView.{HandleView, dropped as dropped_view, without}
use Rattle.promises.specs.Events.{Event, write, check, flush, cancel, turn, handle_write, handle_flush, handle_drop}
use Rattle.promises.specs.History.{History, ◌▷◌, Call, writes, flushes, Reply, not_yet, answered, Asked, polled, dropped, nothing, asked_in, Ends, Unanswered, Repeats, Patient, NoCancel}
use Rattle.promises.proofs.Streams.{impossible, WriterBytes, Stream, TurnWay, stops, finishing, moving, waiting, failing, covering, idle}
use Rattle.promises.proofs.View.{Lock, state_of, mark_of, entry, put, in_state, open_below, Wants, Way, passes, tells_fault, writes_directly, flushes_directly, cancels, turns, no_handle, no_handle_to_drop, drops, already_closed, writes_nothing, lines_up, keeps_lock, meets_fault, meets_closed, writes_part, begins_flush, ends_flush, accepts_nothing, waits_event, ends_event, error_event, Path, fresh_path, one_more}
use Rattle.promises.proofs.Queue.{Same, same, apart, same?, there_below, fresh_not_queued, locking_or_locked, own_view, other_view}
use Rattle.promises.specs.QueueRule.{queued}

-- what each kind of event says of a handle's calls
pub asked_directly : (e : Event) → accepts_nothing e → asked_in e ≡ nothing
asked_directly (write bytes (Ok u)) a = absurd a
asked_directly (write bytes (Err x)) a = refl
asked_directly (check r) a = refl
asked_directly (flush (Ok u)) a = absurd a
asked_directly (flush (Err x)) a = refl
asked_directly cancel a = absurd a
asked_directly (turn word) a = absurd a
asked_directly (handle_write i bytes r) a = absurd a
asked_directly (handle_flush i r) a = absurd a
asked_directly (handle_drop i r) a = absurd a

pub asked_waits : (i : ℕ) (a : Call) → asked_in (waits_event i a) ≡ polled i a not_yet
asked_waits i (writes bytes) = refl
asked_waits i flushes = refl

pub asked_ends : (i : ℕ) (a : Call) → asked_in (ends_event i a) ≡ polled i a answered
asked_ends i (writes bytes) = refl
asked_ends i flushes = refl

pub asked_errs : (x : HandleError) (i : ℕ) (a : Call) → asked_in (error_event x i a) ≡ polled i a answered
asked_errs x i (writes bytes) = refl
asked_errs x i flushes = refl

-- neither a poll nor a drop of handle i
pub record Elsewhere (i : ℕ) (x : Asked) : Type 0 where
  pub no_poll : (c : Call) (r : Reply) → ¬ (x ≡ polled i c r)
  pub no_drop : ¬ (x ≡ dropped i)

pub nothing_elsewhere : (i : ℕ) (x : Asked) → x ≡ nothing → Elsewhere i x
nothing_elsewhere i x e = record { no_poll = λ c r z. impossible (cc); no_drop = λ z. impossible (cc) }

pub other_elsewhere : (i j : ℕ) (a : Call) (r : Reply) (x : Asked) → x ≡ polled j a r → ¬ (j ≡ i) → Elsewhere i x
other_elsewhere i j a r x e ne = record { no_poll = λ c r' z. ne (let q : polled j a r ≡ polled i c r' = sym e ∙ z in cc); no_drop = λ z. let q : polled j a r ≡ dropped i = sym e ∙ z in impossible (cc) }

pub drop_elsewhere : (i j : ℕ) (x : Asked) → x ≡ dropped j → ¬ (j ≡ i) → Elsewhere i x
drop_elsewhere i j x e ne = record { no_poll = λ c r' z. let q : dropped j ≡ polled i c r' = sym e ∙ z in impossible (cc); no_drop = λ z. ne (let q : dropped j ≡ dropped i = sym e ∙ z in cc) }

module _ (es : History) (e : Event) (i : ℕ) where
  pub unanswered_before : (c : Call) → Elsewhere i (asked_in e) → Unanswered i c (es ▷ e) → Unanswered i c es
  unanswered_before c o (inl q) = absurd (o.no_poll c not_yet q)
  unanswered_before c o (inr u) = u.0

  ends_here : (c : Call) → Elsewhere i (asked_in e) → ¬ (Ends i c (asked_in e))
  ends_here c o (inl q) = o.no_poll c answered q
  ends_here c o (inr q) = o.no_drop q

  pub unanswered_after : (c : Call) → Elsewhere i (asked_in e) → Unanswered i c es → Unanswered i c (es ▷ e)
  unanswered_after c o u = inr (u, ends_here c o)

  -- a patient handle's answered call leaves none unanswered
  pub none_after_answer : (a : Call) → asked_in e ≡ polled i a answered → ((c : Call) → Unanswered i c es → c ≡ a) → (c : Call) → ¬ (Unanswered i c (es ▷ e))
  none_after_answer a q rep c (inl z) = let y : polled i a answered ≡ polled i c not_yet = sym q ∙ z in impossible (cc)
  none_after_answer a q rep c (inr u) = u.1 (inl (q ∙ ap (λ (x : Call). polled i x answered) (sym (rep c u.0))))

  none_after_drop : asked_in e ≡ dropped i → (c : Call) → ¬ (Unanswered i c (es ▷ e))
  none_after_drop q c (inl z) = let y : dropped i ≡ polled i c not_yet = sym q ∙ z in impossible (cc)
  none_after_drop q c (inr u) = u.1 (inr q)

  one_after_wait : (a : Call) → asked_in e ≡ polled i a not_yet → ((c : Call) → Unanswered i c es → c ≡ a) → (c : Call) → Unanswered i c (es ▷ e) → c ≡ a
  one_after_wait a q rep c (inl z) = let y : polled i a not_yet ≡ polled i c not_yet = sym q ∙ z in cc
  one_after_wait a q rep c (inr u) = rep c u.0

pub data QueuedWhileUnanswered (es : History) (i : ℕ) (st : HandleState) : Type 0 where
  out : ((c : Call) → ¬ (Unanswered i c es)) → queued st ≡ 0 → QueuedWhileUnanswered es i st
  waits : (a : Call) → Unanswered i a es → ((c : Call) → Unanswered i c es → c ≡ a) → Wants a → queued st ≡ 1 → QueuedWhileUnanswered es i st

abbrev pub Queueing : History → Lock → ℕ → Type 0
Queueing es l i = QueuedWhileUnanswered es i (state_of i l)

module _ (es : History) (e : Event) where
  queueing_elsewhere : (i : ℕ) (st : HandleState) → Elsewhere i (asked_in e) → QueuedWhileUnanswered es i st → QueuedWhileUnanswered (es ▷ e) i st
  queueing_elsewhere i st o (out n q) = out (λ c u. n c (unanswered_before es e i c o u)) q
  queueing_elsewhere i st o (waits a u one w q) = waits a (unanswered_after es e i a o u) (λ c v. one c (unanswered_before es e i c o v)) w q

  -- handle j's own event: it is out, or it waits
  module _ (j i : ℕ) (l : Lock) (others : ¬ (j ≡ i) → Elsewhere i (asked_in e)) (k : Queueing es l i) where
    put_queueing : (x : HandleView) (q : List ℕ) → j < length l.handles → QueuedWhileUnanswered (es ▷ e) j x.state → Queueing (es ▷ e) (put j x q l) i
    put_queueing x q lt own = go (same? j i)
      where
        go : Same j i → Queueing (es ▷ e) (put j x q l) i
        go (same t z) =
            subst⁻¹ (λ (y : HandleView). QueuedWhileUnanswered (es ▷ e) i y.state) (own_view l j i x q z lt) (subst (λ (n : ℕ). QueuedWhileUnanswered (es ▷ e) n x.state) z own)
        go (apart t z) = subst⁻¹ (λ (y : HandleView). QueuedWhileUnanswered (es ▷ e) i y.state) (other_view l j i x q z) (queueing_elsewhere i (state_of i l) (others z) k)

    same_queueing : QueuedWhileUnanswered (es ▷ e) j (state_of j l) → Queueing (es ▷ e) l i
    same_queueing own = go (same? j i)
      where
        go : Same j i → Queueing (es ▷ e) l i
        go (same t z) = subst (λ (n : ℕ). Queueing (es ▷ e) l n) z own
        go (apart t z) = queueing_elsewhere i (state_of i l) (others z) k

-- the calls of handle j that are unanswered are all this one
abbrev pub Only : History → ℕ → Call → Type 0
Only es j a = (c : Call) → Unanswered j c es → c ≡ a

pub only_in : (es : History) (e : Event) (j : ℕ) (a : Call) (r : Reply) → asked_in e ≡ polled j a r → Repeats es (asked_in e) → Only es j a
only_in es e j a r q rep = subst (λ (x : Asked). Repeats es x) q rep

-- an empty write does not repeat a call that waits
pub empty_out : (es : History) (j : ℕ) (st : HandleState) → QueuedWhileUnanswered es j st → Only es j (writes []) → queued st ≡ 0
empty_out es j st (out n q) rep = q
empty_out es j st (waits a u one w q) rep = absurd (subst Wants (rep a u) w)

pub way_queueing : (es : History) {s : Stream} {l : Lock} {e : Event} {t : Stream} {m : Lock} → Way s l e t m → Repeats es (asked_in e) → ((i : ℕ) → Queueing es l i) → (i : ℕ) → Queueing (es ▷ e) m i
way_queueing es {l = l} (passes e a) rep k i = queueing_elsewhere es e i (state_of i l) (nothing_elsewhere i (asked_in e) (asked_directly e a)) (k i)
way_queueing es {l = l} (tells_fault e f a h₁ h₂) rep k i = queueing_elsewhere es e i (state_of i l) (nothing_elsewhere i (asked_in e) (asked_directly e a)) (k i)
way_queueing es {l = l} {e} (writes_directly bytes h₁ h₂ h₃ fits room) rep k i = queueing_elsewhere es e i (state_of i l) (nothing_elsewhere i nothing refl) (k i)
way_queueing es {l = l} {e} (flushes_directly h₁ h₂) rep k i = queueing_elsewhere es e i (state_of i l) (nothing_elsewhere i nothing refl) (k i)
way_queueing es {l = l} {e} cancels rep k i = queueing_elsewhere es e i (state_of i l) (nothing_elsewhere i nothing refl) (k i)
way_queueing es {l = l} {e} (turns t) rep k i = queueing_elsewhere es e i (state_of i l) (nothing_elsewhere i nothing refl) (k i)
way_queueing es {l = l} {e} (no_handle j a h) rep k i =
    let q = asked_errs _ j a in
    same_queueing es e j i l (other_elsewhere i j a answered (asked_in e) q) (k i) (out (none_after_answer es e j a q (only_in es e j a answered q rep)) (ap queued h))
way_queueing es {l = l} {e} (no_handle_to_drop j h) rep k i = same_queueing es e j i l (drop_elsewhere i j (dropped j) refl) (k i) (out (none_after_drop es e j refl) (ap queued h))
way_queueing es {l = l} {e} (drops j h) rep k i = put_queueing es e j i l (drop_elsewhere i j (dropped j) refl) (k i) dropped_view (without j l.queue) (there_below j l h) (out (none_after_drop es e j refl) refl)
way_queueing es {l = l} {e} (already_closed j a h) rep k i =
    let q = asked_ends j a in
    same_queueing es e j i l (other_elsewhere i j a answered (asked_in e) q) (k i) (out (none_after_answer es e j a q (only_in es e j a answered q rep)) (ap queued h))
way_queueing es {l = l} {e} (writes_nothing j h) rep k i =
    same_queueing es e j i l (other_elsewhere i j (writes []) answered (asked_in e) refl) (k i) (out (none_after_answer es e j (writes []) refl rep) (empty_out es j (state_of j l) (k j) rep))
way_queueing es {l = l} {e} (lines_up j a w op h) rep k i =
    let q = asked_waits j a in
    put_queueing es e j i l (other_elsewhere i j a not_yet (asked_in e) q) (k i) (in_state Locking (mark_of j l)) (entry j l) (open_below j l op) (waits a (inl q) (one_after_wait es e j a q (only_in es e j a not_yet q rep)) w refl)
way_queueing es {l = l} {e} (keeps_lock j a w op h v) rep k i =
    let q = asked_waits j a in
    put_queueing es e j i l (other_elsewhere i j a not_yet (asked_in e) q) (k i) (in_state Locked (mark_of j l)) (entry j l) (open_below j l op) (waits a (inl q) (one_after_wait es e j a q (only_in es e j a not_yet q rep)) w refl)
way_queueing es {l = l} {e} (meets_fault j a f mark w op h v) rep k i =
    let q = asked_errs _ j a in
    put_queueing es e j i l (other_elsewhere i j a answered (asked_in e) q) (k i) (in_state Closed mark) (without j (entry j l)) (open_below j l op) (out (none_after_answer es e j a q (only_in es e j a answered q rep)) refl)
way_queueing es {l = l} {e} (meets_closed j a mark w op h v) rep k i =
    let q = asked_ends j a in
    put_queueing es e j i l (other_elsewhere i j a answered (asked_in e) q) (k i) (in_state Closed mark) (without j (entry j l)) (open_below j l op) (out (none_after_answer es e j a q (only_in es e j a answered q rep)) refl)
way_queueing es {l = l} {e} (writes_part j b bytes n op h v) rep k i =
    put_queueing es e j i l (other_elsewhere i j (writes (b ∷ bytes)) answered (asked_in e) refl) (k i) (in_state Ready false) (without j (entry j l)) (open_below j l op) (out (none_after_answer es e j (writes (b ∷ bytes)) refl rep) refl)
way_queueing es {l = l} {e} (begins_flush j n st c op h₂ h₃ h₄) rep k i = go (same? j i)
  where
    m : Lock
    m = put j (in_state Ready true) (without j (entry j l)) l

    q : List ℕ
    q = without j (entry j l) ++ j ∷ []

    lt : j < length m.handles
    lt = rw (length-set l.handles j (in_state Ready true)) (open_below j l op)

    own : QueuedWhileUnanswered (es ▷ e) j st
    own = waits flushes (inl refl) (one_after_wait es e j flushes refl rep) tt (locking_or_locked st c)

    go : Same j i → Queueing (es ▷ e) (put j (in_state st true) q m) i
    go (same t z) =
        subst⁻¹ (λ (y : HandleView). QueuedWhileUnanswered (es ▷ e) i y.state) (own_view m j i (in_state st true) q z lt) (subst (λ (n : ℕ). QueuedWhileUnanswered (es ▷ e) n st) z own)
    go (apart t z) =
        subst⁻¹ (λ (y : HandleView). QueuedWhileUnanswered (es ▷ e) i y.state) (other_view m j i (in_state st true) q z ∙ other_view l j i (in_state Ready true) (without j (entry j l)) z)
        (queueing_elsewhere es e i (state_of i l) (other_elsewhere i j flushes not_yet (asked_in e) refl z) (k i))
way_queueing es {l = l} {e} (ends_flush j n op h₁ h₂ h₃) rep k i =
    put_queueing es e j i l (other_elsewhere i j flushes answered (asked_in e) refl) (k i) (in_state Ready false) (without j (entry j l)) (open_below j l op) (out (none_after_answer es e j flushes refl rep) refl)

pub path_queueing : {B h : ℕ} {w : WriterBytes} {es : History} {s : Stream} {l : Lock} → Path B h w es s l → Patient es → (i : ℕ) → Queueing es l i
path_queueing {h = h} fresh_path pt i = out (λ c u. u) (fresh_not_queued h i)
path_queueing (one_more {es = es} p x) pt i = way_queueing es x pt.1 (path_queueing p pt.0) i

turn_not_cancelled : {s : Stream} {word : Turn} {t : Stream} → TurnWay s word t → t.cancelled ≡ s.cancelled
turn_not_cancelled (stops h) = refl
turn_not_cancelled (finishing w us h e) = refl
turn_not_cancelled (moving w us k h e l) = refl
turn_not_cancelled waiting = refl
turn_not_cancelled (failing f h) = refl
turn_not_cancelled (covering h₁ h₂ h₃) = refl
turn_not_cancelled (idle h₁ h₂ h₃) = refl

way_not_cancelled : {s : Stream} {l : Lock} {e : Event} {t : Stream} {m : Lock} → Way s l e t m → ¬ (e ≡ cancel) → t.cancelled ≡ s.cancelled
way_not_cancelled (passes e a) c = refl
way_not_cancelled (tells_fault e f a h₁ h₂) c = refl
way_not_cancelled (writes_directly bytes h₁ h₂ h₃ fits room) c = refl
way_not_cancelled (flushes_directly h₁ h₂) c = refl
way_not_cancelled cancels c = absurd (c refl)
way_not_cancelled (turns t) c = turn_not_cancelled t
way_not_cancelled (no_handle j a h) c = refl
way_not_cancelled (no_handle_to_drop j h) c = refl
way_not_cancelled (drops j h) c = refl
way_not_cancelled (already_closed j a h) c = refl
way_not_cancelled (writes_nothing j h) c = refl
way_not_cancelled (lines_up j a w op h) c = refl
way_not_cancelled (keeps_lock j a w op h v) c = refl
way_not_cancelled (meets_fault j a f mark w op h v) c = refl
way_not_cancelled (meets_closed j a mark w op h v) c = refl
way_not_cancelled (writes_part j b bytes n op h v) c = refl
way_not_cancelled (begins_flush j n st h op h₂ h₃ h₄) c = refl
way_not_cancelled (ends_flush j n op h₁ h₂ h₃) c = refl

pub path_not_cancelled : {B h : ℕ} {w : WriterBytes} {es : History} {s : Stream} {l : Lock} → Path B h w es s l → NoCancel es → s.cancelled ≡ false
path_not_cancelled fresh_path c = refl
path_not_cancelled (one_more p x) c = way_not_cancelled x c.1 ∙ path_not_cancelled p c.0
