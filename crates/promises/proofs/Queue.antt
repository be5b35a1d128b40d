-- The queue invariant: which handles stand in the queue for the lock, and how many.
-- Assumes nothing.
use Rattle.std.proofs.Common.{◌≡◌, ℕ, zero, suc, ◌+◌, ◌<◌, ◌≤◌, Bool, true, false, cond, eqb, ◌⊎◌, List, [], ◌∷◌, ◌++◌, length, get_or, set, replicate, sym, refl, ap, ◌∙◌, subst, inl, inr, arith, length-append, length-set, get_or-set_other, get_or-set_same, eqb-true}
use Rattle.std.proofs.Math.Decide.{dec_lt}
use Rattle.std.proofs.Math.ListN.{length-replicate, get_or-eq_default}
use Rattle.std.proofs.lemmas.Bool.{eqb-false}
use Rattle.handles.specs.declared.handle.HandleState.{HandleState}
use Rattle.handles.specs.declared.handle.HandleState.TheVariants.{Ready, Locking, Locked, Closed, Dropped}
use Rattle.promises.specs.SharedView.{HandleView, dropped, holds, joins, without}
use Rattle.promises.specs.QueueRule.{occurrences, queued, count_queued}
use Rattle.promises.specs.Events.{Event}
use Rattle.promises.specs.History.{History}
use Rattle.promises.proofs.Streams.{impossible, WriterBytes, Stream}
use Rattle.promises.proofs.View.{Lock, view_of, state_of, mark_of, entry, put, in_state, is_open, Open, open_below, Way, passes, tells_fault, writes_directly, flushes_directly, cancels, turns, no_handle, no_handle_to_drop, drops, already_closed, writes_nothing, lines_up, keeps_lock, meets_fault, meets_closed, writes_part, begins_flush, ends_flush, Path, fresh_path, one_more}

-- whether two numbers are equal, with the test's outcome
pub data Same (x i : ℕ) : Type 0 where
  same : eqb x i ≡ true → x ≡ i → Same x i
  apart : eqb x i ≡ false → ¬ (x ≡ i) → Same x i

pub same? : (x i : ℕ) → Same x i
same? x i = go (eqb x i) refl
  where
    go : (b : Bool) → eqb x i ≡ b → Same x i
    go true e = same e (eqb-true x i e)
    go false e = apart e (eqb-false x i e)

-- how many stand before i in a queue
abbrev pub position : ℕ → List ℕ → ℕ
position i [] = 0
position i (x ∷ q) = cond (eqb x i) 0 (suc (position i q))

occurrences_snoc_same : (i : ℕ) (q : List ℕ) → occurrences i (q ++ i ∷ []) ≡ suc (occurrences i q)
occurrences_snoc_same i [] = grind arith
occurrences_snoc_same i (x ∷ q) = let ih = occurrences_snoc_same i q in grind arith

occurrences_snoc_other : (i j : ℕ) (q : List ℕ) → ¬ (i ≡ j) → occurrences j (q ++ i ∷ []) ≡ occurrences j q
occurrences_snoc_other i j [] n = grind arith
occurrences_snoc_other i j (x ∷ q) n = let ih = occurrences_snoc_other i j q n in grind arith

occurrences_without_same : (i : ℕ) (q : List ℕ) → occurrences i (without i q) ≡ 0
occurrences_without_same i [] = refl
occurrences_without_same i (x ∷ q) = let ih = occurrences_without_same i q in grind arith

pub occurrences_without_other : (i j : ℕ) (q : List ℕ) → ¬ (i ≡ j) → occurrences j (without i q) ≡ occurrences j q
occurrences_without_other i j [] n = refl
occurrences_without_other i j (x ∷ q) n = let ih = occurrences_without_other i j q n in grind arith

length_without : (i : ℕ) (q : List ℕ) → length (without i q) + occurrences i q ≡ length q
length_without i [] = grind arith
length_without i (x ∷ q) = let ih = length_without i q in grind arith

pub position_snoc : (i j : ℕ) (q : List ℕ) → 0 < occurrences i q → position i (q ++ j ∷ []) ≡ position i q
position_snoc i j [] h = grind arith
position_snoc i j (x ∷ q) h = let ih = position_snoc i j q in grind arith

pub position_below : (i : ℕ) (q : List ℕ) → 0 < occurrences i q → position i q < length q
position_below i [] h = grind arith
position_below i (x ∷ q) h = let ih = position_below i q in grind arith

pub position_without : (i j : ℕ) (q : List ℕ) → ¬ (i ≡ j) → position j (without i q) ≤ position j q
position_without i j [] n = grind arith
position_without i j (x ∷ q) n = let ih = position_without i j q n in grind arith

pub position_falls : (i j : ℕ) (q : List ℕ) → ¬ (i ≡ j) → holds i q ≡ true → position j (without i q) < position j q
position_falls i j [] n h = grind arith
position_falls i j (x ∷ q) n h = let k = position_without i j q n in grind arith

pub in_at_end : (n : ℕ) (q : List ℕ) → 0 < occurrences n (q ++ n ∷ [])
in_at_end n q = let e = occurrences_snoc_same n q in omega arith

-- a first that is not i stays first
pub holds_snoc : (p i : ℕ) (q : List ℕ) → holds p q ≡ true → holds p (q ++ i ∷ []) ≡ true
holds_snoc p i [] h = grind arith
holds_snoc p i (x ∷ q) h = h

pub holds_without : (p i : ℕ) (q : List ℕ) → ¬ (i ≡ p) → holds p q ≡ true → holds p (without i q) ≡ true
holds_without p i [] n h = grind arith
holds_without p i (x ∷ q) n h = grind arith

pub holder_in_queue : (i : ℕ) (q : List ℕ) → holds i q ≡ true → 0 < occurrences i q
holder_in_queue i [] h = grind arith
holder_in_queue i (x ∷ q) h = grind arith

pub count_queued_set : (hs : List HandleView) (i : ℕ) (x : HandleView) → i < length hs → count_queued (set hs i x) + queued (get_or hs i dropped).state ≡ count_queued hs + queued x.state
count_queued_set [] i x h = absurd (omega arith)
count_queued_set (y ∷ hs) zero x h = omega arith
count_queued_set (y ∷ hs) (suc i) x h = let k = count_queued_set hs i x (omega arith) in omega arith

queued_le : (st : HandleState) → queued st ≤ 1
queued_le st = grind arith

pub count_queued_le : (hs : List HandleView) → count_queued hs ≤ length hs
count_queued_le [] = omega arith
count_queued_le (x ∷ hs) = let k = count_queued_le hs in let l = queued_le x.state in omega arith

count_queued_fresh : (n : ℕ) → count_queued (replicate n (in_state Ready false)) ≡ 0
count_queued_fresh zero = refl
count_queued_fresh (suc n) = let k = count_queued_fresh n in omega arith

pub fresh_not_queued : (n i : ℕ) → queued (get_or (replicate n (in_state Ready false)) i dropped).state ≡ 0
fresh_not_queued zero i = refl
fresh_not_queued (suc n) zero = refl
fresh_not_queued (suc n) (suc i) = fresh_not_queued n i

pub record QueueInvariant (h : ℕ) (l : Lock) : Type 0 where
  pub size : length l.handles ≡ h
  pub each : (i : ℕ) → occurrences i l.queue ≡ queued (state_of i l)
  pub whole : length l.queue ≡ count_queued l.handles

put_invariant : (h : ℕ) (l : Lock) (i : ℕ) (x : HandleView) (q : List ℕ) → QueueInvariant h l → i < length l.handles
    → occurrences i q ≡ queued x.state → ((j : ℕ) → ¬ (i ≡ j) → occurrences j q ≡ occurrences j l.queue)
    → length q + queued (state_of i l) ≡ length l.queue + queued x.state
    → QueueInvariant h (put i x q l)
put_invariant h l i x q k lt own others len =
    record {
      size = length-set l.handles i x ∙ k.size;
      each = λ j. go j (same? i j);
      whole = let c = count_queued_set l.handles i x lt in let w = k.whole in omega arith;
    }
  where
    go : (j : ℕ) → Same i j → occurrences j q ≡ queued (state_of j (put i x q l))
    go j (same e p) =
        rw (← p) (own ∙ ap (λ (y : HandleView). queued y.state) (sym (get_or-set_same l.handles i x dropped lt)))
    go j (apart e p) =
        others j p ∙ k.each j ∙ ap (λ (y : HandleView). queued y.state) (sym (get_or-set_other l.handles i j x dropped (λ z. p (sym z))))

-- the queue once handle i has asked for the lock: i stands in it once
pub record Entered (i : ℕ) (l : Lock) (q : List ℕ) : Type 0 where
  pub once : occurrences i q ≡ 1
  pub others : (j : ℕ) → ¬ (i ≡ j) → occurrences j q ≡ occurrences j l.queue
  pub longer : length q + queued (state_of i l) ≡ length l.queue + 1
  pub ahead : (j : ℕ) → 0 < occurrences j l.queue → position j q ≡ position j l.queue
  pub first_stays : (p : ℕ) → holds p l.queue ≡ true → holds p q ≡ true

pub entered : (h : ℕ) (i : ℕ) (l : Lock) → QueueInvariant h l → Open i l → Entered i l (entry i l)
entered h i l k o = go (state_of i l) refl o (k.each i)
  where
    go : (st : HandleState) → state_of i l ≡ st → is_open st ≡ true → occurrences i l.queue ≡ queued (state_of i l) → Entered i l (joins st i l.queue)
    go Ready e w c =
        let z : queued (state_of i l) ≡ 0 = ap queued e in
        record {
          once = occurrences_snoc_same i l.queue ∙ ap suc (c ∙ z);
          others = λ j n. occurrences_snoc_other i j l.queue n;
          longer = let m = length-append l.queue (i ∷ []) in omega arith;
          ahead = λ j n. position_snoc j i l.queue n;
          first_stays = λ p. holds_snoc p i l.queue;
        }
    go Locking e w c = record { once = c ∙ ap queued e; others = λ j n. refl; longer = rw e; ahead = λ j n. refl; first_stays = λ p n. n }
    go Locked e w c = record { once = c ∙ ap queued e; others = λ j n. refl; longer = rw e; ahead = λ j n. refl; first_stays = λ p n. n }
    go Closed e w c = impossible (cc)
    go Dropped e w c = impossible (cc)

-- a handle that is not dropped is one of the table
pub there_below : (i : ℕ) (l : Lock) → ¬ (state_of i l ≡ Dropped) → i < length l.handles
there_below i l n = go (dec_lt i (length l.handles))
  where
    go : Dec (i < length l.handles) → i < length l.handles
    go (yes h) = h
    go (no h) = absurd (n (ap (λ (x : HandleView). x.state) (get_or-eq_default l.handles dropped (omega arith))))

module _ (h : ℕ) (l : Lock) (k : QueueInvariant h l) where
  pub stays_invariant : (i : ℕ) (st : HandleState) (mark : Bool) → queued st ≡ 1 → Open i l → QueueInvariant h (put i (in_state st mark) (entry i l) l)
  stays_invariant i st mark one o =
      let n = entered h i l k o in
      put_invariant h l i (in_state st mark) (entry i l) k (open_below i l o) (n.once ∙ sym one) n.others (let m = n.longer in omega arith)

  pub hands_on_invariant : (i : ℕ) (st : HandleState) (mark : Bool) → queued st ≡ 0 → Open i l → QueueInvariant h (put i (in_state st mark) (without i (entry i l)) l)
  hands_on_invariant i st mark out o =
      let n = entered h i l k o in
      let q = entry i l in
      put_invariant h l i (in_state st mark) (without i q) k (open_below i l o) (occurrences_without_same i q ∙ sym out)
      (λ j ne. occurrences_without_other i j q ne ∙ n.others j ne) (let a = n.longer in let m = length_without i q in let c = n.once in omega arith)

  pub drop_invariant : (i : ℕ) → ¬ (state_of i l ≡ Dropped) → QueueInvariant h (put i dropped (without i l.queue) l)
  drop_invariant i n =
      let q = l.queue in
      put_invariant h l i dropped (without i q) k (there_below i l n) (occurrences_without_same i q)
      (λ j ne. occurrences_without_other i j q ne) (let m = length_without i q in let c = k.each i in omega arith)

  begin_invariant : (i : ℕ) (st : HandleState) → queued st ≡ 1 → Open i l
      → QueueInvariant h (put i (in_state st true) (without i (entry i l) ++ i ∷ []) (put i (in_state Ready true) (without i (entry i l)) l))
  begin_invariant i st one o =
      let q = without i (entry i l) in
      let l' = put i (in_state Ready true) q l in
      let lt = open_below i l o in
      let e : view_of i l' ≡ in_state Ready true = get_or-set_same l.handles i (in_state Ready true) dropped lt in
      put_invariant h l' i (in_state st true) (q ++ i ∷ []) (hands_on_invariant i Ready true refl o)
      (rw (length-set l.handles i (in_state Ready true)) lt)
      (occurrences_snoc_same i q ∙ ap suc (occurrences_without_same i (entry i l)) ∙ sym one)
      (λ j ne. occurrences_snoc_other i j q ne)
      (let m = length-append q (i ∷ []) in let z : queued (state_of i l') ≡ 0 = ap (λ (x : HandleView). queued x.state) e in omega arith)

pub locking_or_locked : (st : HandleState) → (st ≡ Locking) ⊎ (st ≡ Locked) → queued st ≡ 1
locking_or_locked st (inl e) = ap queued e
locking_or_locked st (inr e) = ap queued e

pub way_invariant : (h : ℕ) {s : Stream} {l : Lock} {e : Event} {t : Stream} {m : Lock} → Way s l e t m → QueueInvariant h l → QueueInvariant h m
way_invariant h (passes e a) k = k
way_invariant h (tells_fault e f a h₁ h₂) k = k
way_invariant h (writes_directly bytes h₁ h₂ h₃ fits room) k = k
way_invariant h (flushes_directly h₁ h₂) k = k
way_invariant h cancels k = k
way_invariant h (turns t) k = k
way_invariant h (no_handle i a h₁) k = k
way_invariant h (no_handle_to_drop i h₁) k = k
way_invariant h {l = l} (drops i n) k = drop_invariant h l k i n
way_invariant h (already_closed i a h₁) k = k
way_invariant h (writes_nothing i h₁) k = k
way_invariant h {l = l} (lines_up i a w o f) k = stays_invariant h l k i Locking (mark_of i l) refl o
way_invariant h {l = l} (keeps_lock i a w o f v) k = stays_invariant h l k i Locked (mark_of i l) refl o
way_invariant h {l = l} (meets_fault i a f mark w o t v) k = hands_on_invariant h l k i Closed mark refl o
way_invariant h {l = l} (meets_closed i a mark w o t v) k = hands_on_invariant h l k i Closed mark refl o
way_invariant h {l = l} (writes_part i b bytes n o t v) k = hands_on_invariant h l k i Ready false refl o
way_invariant h {l = l} (begins_flush i n st c o m t v) k = begin_invariant h l k i st (locking_or_locked st c) o
way_invariant h {l = l} (ends_flush i n o m t v) k = hands_on_invariant h l k i Ready false refl o

pub path_invariant : {B h : ℕ} {w : WriterBytes} {es : History} {s : Stream} {l : Lock} → Path B h w es s l → QueueInvariant h l
path_invariant {h = h} fresh_path =
    record {
      size = length-replicate h (in_state Ready false);
      each = λ i. sym (fresh_not_queued h i);
      whole = sym (count_queued_fresh h);
    }
path_invariant {h = h} (one_more p x) = way_invariant h x (path_invariant p)

pub queue_within : (h : ℕ) (l : Lock) → QueueInvariant h l → length l.queue ≤ h
queue_within h l k = let c = count_queued_le l.handles in let w = k.whole in let s = k.size in omega arith

-- handle i's own view after it was put
pub own_view : (l : Lock) (j i : ℕ) (x : HandleView) (q : List ℕ) → j ≡ i → j < length l.handles → view_of i (put j x q l) ≡ x
own_view l j i x q e lt = subst (λ (k : ℕ). get_or (set l.handles j x) k dropped ≡ x) e (get_or-set_same l.handles j x dropped lt)

pub other_view : (l : Lock) (j i : ℕ) (x : HandleView) (q : List ℕ) → ¬ (j ≡ i) → view_of i (put j x q l) ≡ view_of i l
other_view l j i x q ne = get_or-set_other l.handles j i x dropped (λ z. ne (sym z))
