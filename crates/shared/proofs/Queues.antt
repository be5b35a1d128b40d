-- Every call of a handle keeps the rule of the queue. Assumes nothing.
use Rattle.std.proofs.Common.{◌≡◌, ℕ, zero, suc, ◌<◌, ◌≤◌, Bool, true, false, cond, List, [], ◌∷◌, length, get_or, set, replicate, Ok, sym, refl, ap, ◌∙◌, arith, length-set, get_or-set_same}
use Rattle.stream.specs.Meaning.{Meaning, faulted, closed, open_with}
use Rattle.handles.specs.declared.handle.HandleState.{HandleState}
use Rattle.handles.specs.declared.handle.HandleState.TheVariants.{Ready, Locking, Locked, Closed, Dropped}
use Rattle.handles.specs.declared.handle.Poll.{Poll}
use Rattle.handles.specs.declared.handle.Poll.TheVariants.{Pending}
use Rattle.promises.specs.SharedView.{HandleView, SharedView, dropped, handle, holds, asked, waits, hands_on, leaves}
use Rattle.promises.specs.QueueRule.{queued, count_queued, EachQueued, NoMoreQueued}
use Rattle.promises.specs.Polls.{Outcome, outcome, HandleResult, by_state, with_lock, write_by, write_some, poll_write, second_by, second_stage, first_by, first_stage, poll_flush, drop_handle}
use Rattle.promises.proofs.View.{Lock, is_open, Open, open_below}
use Rattle.promises.proofs.Queue.{QueueInvariant, stays_invariant, hands_on_invariant, drop_invariant, count_queued_set, count_queued_le, fresh_not_queued}
use Rattle.shared.specs.declared.locked_async.stdout.AsyncStdoutStream.{AsyncStdoutStream}
use Rattle.shared.specs.LockOf.{queue_of}
use Rattle.shared.specs.TableOf.{handles_of}
use Rattle.shared.specs.SharedOf.{shared_view}

abbrev pub lock_of : {S : Type 0} → SharedView S → Lock
lock_of s = record { queue = s.queue; handles = s.handles }

module _ {S : Type 0} (n h : ℕ) where
  with_lock_keeps : {X : Type 0} (s : SharedView S) (call : Outcome (HandleResult (Poll X)) S) → Open h (lock_of s) → QueueInvariant n (lock_of s) → QueueInvariant n (lock_of call.left) → QueueInvariant n (lock_of (with_lock h s call).left)
  with_lock_keeps s call o k c = go (holds h (asked h s))
    where
      go : (b : Bool) → QueueInvariant n (lock_of (cond b call (outcome (Ok Pending) (waits Locking h s))).left)
      go true = c
      go false = stays_invariant n (lock_of s) k h Locking (handle h s).mark refl o

  by_state_keeps : {X : Type 0} (s : SharedView S) (st : HandleState) (when_closed when_open : Outcome (HandleResult X) S) → (handle h s).state ≡ st → QueueInvariant n (lock_of s) → when_closed.left ≡ s → (Open h (lock_of s) → QueueInvariant n (lock_of when_open.left)) →
      QueueInvariant n (lock_of (by_state st s when_closed when_open).left)
  by_state_keeps s Dropped a b e k same c = k
  by_state_keeps s Closed a b e k same c = rw same k
  by_state_keeps s Ready a b e k same c = c (ap is_open e)
  by_state_keeps s Locking a b e k same c = c (ap is_open e)
  by_state_keeps s Locked a b e k same c = c (ap is_open e)

  module _ (meaning : S → Meaning) (checked : S → S) where
    write_by_keeps : (wrote : S → List ℕ → S) (m : Meaning) (bytes : List ℕ) (s : SharedView S) → Open h (lock_of s) → QueueInvariant n (lock_of s) → QueueInvariant n (lock_of (write_by meaning checked wrote m h bytes s).left)
    write_by_keeps wrote (faulted f) bytes s o k = hands_on_invariant n (lock_of s) k h Closed (handle h s).mark refl o
    write_by_keeps wrote closed bytes s o k = hands_on_invariant n (lock_of s) k h Closed (handle h s).mark refl o
    write_by_keeps wrote (open_with zero) bytes s o k = stays_invariant n (lock_of s) k h Locked (handle h s).mark refl o
    write_by_keeps wrote (open_with (suc j)) bytes s o k = hands_on_invariant n (lock_of s) k h Ready false refl o

    write_some_keeps : (wrote : S → List ℕ → S) (bytes : List ℕ) (s : SharedView S) → Open h (lock_of s) → QueueInvariant n (lock_of s) → QueueInvariant n (lock_of (write_some meaning checked wrote h bytes s).left)
    write_some_keeps wrote [] s o k = k
    write_some_keeps wrote (b ∷ bytes) s o k = with_lock_keeps s _ o k (write_by_keeps wrote (meaning s.stream) (b ∷ bytes) s o k)

    pub write_keeps : (wrote : S → List ℕ → S) (bytes : List ℕ) (s : SharedView S) → QueueInvariant n (lock_of s) → QueueInvariant n (lock_of (poll_write meaning checked wrote h bytes s).left)
    write_keeps wrote bytes s k = by_state_keeps s (handle h s).state _ _ refl k refl (λ o. write_some_keeps wrote bytes s o k)

    second_by_keeps : (flushed : S → S) (m : Meaning) (s : SharedView S) → Open h (lock_of s) → QueueInvariant n (lock_of s) → QueueInvariant n (lock_of (second_by meaning checked flushed m h s).left)
    second_by_keeps flushed (faulted f) s o k = hands_on_invariant n (lock_of s) k h Closed false refl o
    second_by_keeps flushed closed s o k = hands_on_invariant n (lock_of s) k h Closed false refl o
    second_by_keeps flushed (open_with zero) s o k = stays_invariant n (lock_of s) k h Locked (handle h s).mark refl o
    second_by_keeps flushed (open_with (suc j)) s o k = hands_on_invariant n (lock_of s) k h Ready false refl o

    second_keeps : (flushed : S → S) (s : SharedView S) → Open h (lock_of s) → QueueInvariant n (lock_of s) → QueueInvariant n (lock_of (second_stage meaning checked flushed h s).left)
    second_keeps flushed s o k = with_lock_keeps s _ o k (second_by_keeps flushed (meaning s.stream) s o k)

    first_by_keeps : (flushed : S → S) (m : Meaning) (s : SharedView S) → Open h (lock_of s) → QueueInvariant n (lock_of s) → QueueInvariant n (lock_of (first_by meaning checked flushed m h s).left)
    first_by_keeps flushed (faulted f) s o k = hands_on_invariant n (lock_of s) k h Closed (handle h s).mark refl o
    first_by_keeps flushed closed s o k = hands_on_invariant n (lock_of s) k h Closed (handle h s).mark refl o
    first_by_keeps flushed (open_with zero) s o k = stays_invariant n (lock_of s) k h Locked (handle h s).mark refl o
    first_by_keeps flushed (open_with (suc j)) s o k =
        let t = hands_on Ready true (flushed s.stream) h s in
        let ready : Open h (lock_of t) = ap (λ (x : HandleView). is_open x.state) (get_or-set_same s.handles h (record { state = Ready; mark = true }) dropped (open_below h (lock_of s) o)) in
        second_keeps flushed t ready (hands_on_invariant n (lock_of s) k h Ready true refl o)

    pub flush_keeps : (flushed : S → S) (s : SharedView S) → QueueInvariant n (lock_of s) → QueueInvariant n (lock_of (poll_flush meaning checked flushed h s).left)
    flush_keeps flushed s k = by_state_keeps s (handle h s).state _ _ refl k refl (λ o. go (handle h s).mark o)
      where
        go : (b : Bool) → Open h (lock_of s) → QueueInvariant n (lock_of (cond b (second_stage meaning checked flushed h s) (first_stage meaning checked flushed h s)).left)
        go true o = second_keeps flushed s o k
        go false o = with_lock_keeps s _ o k (first_by_keeps flushed (meaning s.stream) s o k)

  pub drop_keeps : (s : SharedView S) → QueueInvariant n (lock_of s) → QueueInvariant n (lock_of (drop_handle h s).left)
  drop_keeps s k = go (handle h s).state refl
    where
      other : (st : HandleState) → (handle h s).state ≡ st → (st ≡ Dropped → ⊥) → QueueInvariant n (lock_of (outcome {R = ℕ} 0 (leaves h s)).left)
      other st e alive = drop_invariant n (lock_of s) k h (λ z. alive (sym e ∙ z))

      go : (st : HandleState) → (handle h s).state ≡ st → QueueInvariant n (lock_of (by_state {X = Unit {0}} st s (outcome (Ok (tt {0})) (leaves h s)) (outcome (Ok (tt {0})) (leaves h s))).left)
      go Dropped e = k
      go Closed e = other Closed e (λ z. absurd (cc))
      go Ready e = other Ready e (λ z. absurd (cc))
      go Locking e = other Locking e (λ z. absurd (cc))
      go Locked e = other Locked e (λ z. absurd (cc))

-- a Ready handle finds room in the line
pub room_to_join : (n h : ℕ) (l : Lock) → QueueInvariant n l → n ≤ 16 → (get_or l.handles h dropped).state ≡ Ready → length l.queue < 16
room_to_join n h l k few ready =
    let o : Open h l = ap is_open ready in
    let below = open_below h l o in
    let x : HandleView = record { state = Locking; mark = false } in
    let c = count_queued_set l.handles h x below in
    let none : queued (get_or l.handles h dropped).state ≡ 0 = ap queued ready in
    let m = count_queued_le (set l.handles h x) in
    omega (arith, c, none, m, length-set l.handles h x, k.size, k.whole)

-- the rule of the queue, as a shared stream carries it
module _ {S V : Type 0} (view : S → V) (a : AsyncStdoutStream S) where
  pub carried : QueueInvariant (length (handles_of a.parts.table)) (lock_of (shared_view view a))
  carried = record { size = refl; each = a.each; whole = a.whole }

  pub room : (h : ℕ) → (handle h (shared_view view a)).state ≡ Ready → length (queue_of a.parts.lock) < 16
  room h ready = room_to_join (length (handles_of a.parts.table)) h (lock_of (shared_view view a)) carried a.parts.table.few ready

pub carries_on : {V : Type 0} (n : ℕ) (t v : SharedView V) → t ≡ v → QueueInvariant n (lock_of v) → QueueInvariant n (lock_of t)
carries_on n t v e k = rw e k

none_queued : (n : ℕ) → count_queued (replicate n (record { state = Ready; mark = false })) ≡ 0
none_queued zero = refl
none_queued (suc n) = let k = none_queued n in omega arith

pub carries_fresh : (q : List ℕ) (hs : List HandleView) (n : ℕ) → q ≡ [] → hs ≡ replicate n (record { state = Ready; mark = false }) → EachQueued q hs × NoMoreQueued q hs
carries_fresh q hs n e f = rw (e, f) ((λ i. sym (fresh_not_queued n i)), sym (none_queued n))
