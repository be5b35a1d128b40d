-- The polls of a handle, by how asking for the lock ended. Assumes nothing.
use Rattle.std.proofs.Common.{◌≡◌, ℕ, suc, ◌<◌, ◌≤◌, Bool, true, false, cond, eqb, List, [], ◌∷◌, length, Ok, sym, refl, ap, ◌∙◌, arith, get_or-set_same}
use Rattle.stream.specs.Meaning.{Meaning}
use Rattle.handles.specs.declared.handle.HandleState.{HandleState}
use Rattle.handles.specs.declared.handle.HandleState.TheVariants.{Ready, Locking, Locked, Closed, Dropped}
use Rattle.handles.specs.declared.handle.Poll.{Poll}
use Rattle.handles.specs.declared.handle.Poll.TheVariants.{Ready as Answer, Pending}
use Rattle.promises.specs.SharedView.{HandleView, SharedView, dropped, handle, holds, waits, without}
use Rattle.shared.specs.GivingBack.{given_back}
use Rattle.promises.specs.Polls.{Outcome, outcome, HandleResult, by_state, write_by, write_some, poll_write, second_by, second_stage, first_by, first_stage, poll_flush}
use Rattle.promises.specs.Steps.{Gives}
use Rattle.shared.specs.declared.locked_async.table.changes.Request.{Request}
use Rattle.shared.specs.declared.locked_async.table.changes.Request.TheVariants.{Flush}
use Rattle.shared.specs.Acquiring.{is_open, Entered}
use Rattle.shared.proofs.Granted.{write_again, second_again, first_again}

module _ {S X : Type 0} (s : SharedView S) (when_closed when_open : Outcome (HandleResult X) S) where
  by_open : (st : HandleState) → is_open st ≡ true → by_state st s when_closed when_open ≡ when_open
  by_open Ready o = refl
  by_open Locking o = refl
  by_open Locked o = refl
  by_open Closed o = absurd (cc)
  by_open Dropped o = absurd (cc)

gives : {R S : Type 0} {o : Outcome R S} (p : Outcome R S) (r : R) (t : SharedView S) → p ≡ o → Gives o r t → Gives p r t
gives p r t e g = record { told = g.told ∙ ap (λ o. o.answer) (sym e); left = g.left ∙ ap (λ o. o.left) (sym e) }

module _ {S : Type 0} (meaning : S → Meaning) (checked : S → S) (h : ℕ) (s t : SharedView S) where
  module _ (wrote : S → List ℕ → S) where
    write_enters : (bytes : List ℕ) (request : Request) (first : Bool) → 0 < length bytes → Entered h request first s t →
        poll_write meaning checked wrote h bytes s ≡ cond first (write_by meaning checked wrote (meaning s.stream) h bytes s) (outcome (Ok Pending) (waits Locking h s))
    write_enters bytes request first some e = by_open s _ _ _ e.open_now ∙ go bytes some
      where
        go : (bs : List ℕ) → 0 < length bs → write_some meaning checked wrote h bs s ≡ cond first (write_by meaning checked wrote (meaning s.stream) h bs s) (outcome (Ok Pending) (waits Locking h s))
        go [] some = absurd (omega arith)
        go (b ∷ bs) some = ap (λ b'. cond b' (write_by meaning checked wrote (meaning s.stream) h (b ∷ bs) s) (outcome (Ok Pending) (waits Locking h s))) e.place

    pub write_granted : (bytes : List ℕ) (request : Request) (r : HandleResult (Poll ℕ)) (u : SharedView S) → 0 < length bytes → Entered h request true s t →
        Gives (write_by meaning checked wrote (meaning t.stream) h bytes t) r u → Gives (poll_write meaning checked wrote h bytes s) r u
    write_granted bytes request r u some e g =
        gives _ r u (write_enters bytes request true some e ∙ sym (write_again h s e.there meaning checked wrote (meaning s.stream) bytes) ∙ ap (λ v. write_by meaning checked wrote (meaning v.stream) h bytes v) (sym e.left)) g

  module _ (flushed : S → S) where
    second_enters : (first : Bool) → Entered h Flush first s t → second_stage meaning checked flushed h s ≡ cond first (second_by meaning checked flushed (meaning s.stream) h s) (outcome (Ok Pending) (waits Locking h s))
    second_enters first e = ap (λ b. cond b (second_by meaning checked flushed (meaning s.stream) h s) (outcome (Ok Pending) (waits Locking h s))) e.place

    first_enters : (first : Bool) → Entered h Flush first s t → first_stage meaning checked flushed h s ≡ cond first (first_by meaning checked flushed (meaning s.stream) h s) (outcome (Ok Pending) (waits Locking h s))
    first_enters first e = ap (λ b. cond b (first_by meaning checked flushed (meaning s.stream) h s) (outcome (Ok Pending) (waits Locking h s))) e.place

    pub second_granted : (r : HandleResult (Poll (Unit {0}))) (u : SharedView S) → Entered h Flush true s t → Gives (second_by meaning checked flushed (meaning t.stream) h t) r u → Gives (second_stage meaning checked flushed h s) r u
    second_granted r u e g =
        gives _ r u (second_enters true e ∙ sym (second_again h s e.there meaning checked flushed (meaning s.stream)) ∙ ap (λ v. second_by meaning checked flushed (meaning v.stream) h v) (sym e.left)) g

    pub first_granted : (r : HandleResult (Poll (Unit {0}))) (u : SharedView S) → Entered h Flush true s t → Gives (first_by meaning checked flushed (meaning t.stream) h t) r u → Gives (first_stage meaning checked flushed h s) r u
    first_granted r u e g =
        gives _ r u (first_enters true e ∙ sym (first_again h s e.there meaning checked flushed (meaning s.stream)) ∙ ap (λ v. first_by meaning checked flushed (meaning v.stream) h v) (sym e.left)) g

    pub flush_marked : (r : HandleResult (Poll (Unit {0}))) (u : SharedView S) → is_open (handle h s).state ≡ true → (handle h s).mark ≡ true → Gives (second_stage meaning checked flushed h s) r u → Gives (poll_flush meaning checked flushed h s) r u
    flush_marked r u o m g = gives _ r u (by_open s _ _ _ o ∙ ap (λ b. cond b (second_stage meaning checked flushed h s) (first_stage meaning checked flushed h s)) m) g

    pub flush_unmarked : (r : HandleResult (Poll (Unit {0}))) (u : SharedView S) → is_open (handle h s).state ≡ true → (handle h s).mark ≡ false → Gives (first_stage meaning checked flushed h s) r u → Gives (poll_flush meaning checked flushed h s) r u
    flush_unmarked r u o m g = gives _ r u (by_open s _ _ _ o ∙ ap (λ b. cond b (second_stage meaning checked flushed h s) (first_stage meaning checked flushed h s)) m) g

-- after the first stage the handle is Ready, and there is room for it in the line
pub ready_again : {S : Type 0} (h : ℕ) (s t : SharedView S) (mark ended : Bool) → h < length s.handles → t ≡ given_back {X = Unit {0}} (Ok (Answer tt)) mark ended h s → is_open (handle h t).state ≡ true
ready_again h s t mark ended there e = ap (λ v. is_open (handle h v).state) e ∙ ap (λ (x : HandleView). is_open x.state) (get_or-set_same s.handles h (record { state = Ready; mark = mark }) dropped there)

shorter : (h : ℕ) (q : List ℕ) → length (without h q) ≤ length q
shorter h [] = omega arith
shorter h (x ∷ q) = let ih = shorter h q in go (eqb x h) ih
  where
    go : (b : Bool) → length (without h q) ≤ length q → length (cond b (without h q) (x ∷ without h q)) ≤ suc (length q)
    go true k = omega arith
    go false k = omega arith

holder_leaves : (h : ℕ) (q : List ℕ) → holds h q ≡ true → length (without h q) < length q
holder_leaves h [] e = absurd (cc)
holder_leaves h (x ∷ q) e = rw e (let k = shorter h q in omega arith)

pub room_again : {S : Type 0} (h : ℕ) (s t : SharedView S) (mark ended : Bool) → holds h s.queue ≡ true → length s.queue ≤ 16 → t ≡ given_back {X = Unit {0}} (Ok (Answer tt)) mark ended h s → length t.queue < 16
room_again h s t mark ended first few e = let k = holder_leaves h s.queue first in let l = ap (λ v. length v.queue) e in omega arith
