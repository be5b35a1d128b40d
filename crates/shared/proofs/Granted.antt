-- A handle that entered the queue and holds the lock meets what it would have met before it entered. Assumes nothing.
use Rattle.std.proofs.Common.{◌≡◌, ℕ, zero, suc, ◌<◌, Bool, List, length, ap, ◌∙◌, get_or-set_same, set-set}
use Rattle.stream.specs.Meaning.{Meaning, faulted, closed, open_with}
use Rattle.handles.specs.declared.handle.HandleState.{HandleState}
use Rattle.handles.specs.declared.handle.HandleState.TheVariants.{Locking}
use Rattle.promises.specs.SharedView.{HandleView, SharedView, dropped, handle, asked, joins, without, with_handle, waits, hands_on}
use Rattle.promises.specs.Polls.{outcome, write_by, second_by, second_stage, first_by}

module _ {S : Type 0} (h : ℕ) (s : SharedView S) (there : h < length s.handles) where
  pub entered_handle : handle h (waits Locking h s) ≡ record { state = Locking; mark = (handle h s).mark }
  entered_handle = get_or-set_same s.handles h (record { state = Locking; mark = (handle h s).mark }) dropped there

  pub entered_state : (handle h (waits Locking h s)).state ≡ Locking
  entered_state = ap (λ (x : HandleView). x.state) entered_handle

  entered_queue : asked h (waits Locking h s) ≡ asked h s
  entered_queue = ap (λ st. joins st h (asked h s)) entered_state

  entered_mark : (handle h (waits Locking h s)).mark ≡ (handle h s).mark
  entered_mark = ap (λ (x : HandleView). x.mark) entered_handle

  pub waits_again : (st : HandleState) → waits st h (waits Locking h s) ≡ waits st h s
  waits_again st =
      ap (λ q. record { stream = s.stream; queue = q; handles = with_handle h st (handle h (waits Locking h s)).mark (waits Locking h s) }) entered_queue
      ∙ ap (λ xs. record { stream = s.stream; queue = asked h s; handles = xs }) (set-set s.handles h _ _ ∙ ap (λ mark. with_handle h st mark s) entered_mark)

  pub hands_on_again : (st : HandleState) (mark : Bool) (stream : S) → hands_on st mark stream h (waits Locking h s) ≡ hands_on st mark stream h s
  hands_on_again st mark stream =
      ap (λ q. record { stream = stream; queue = without h q; handles = with_handle h st mark (waits Locking h s) }) entered_queue
      ∙ ap (λ xs. record { stream = stream; queue = without h (asked h s); handles = xs }) (set-set s.handles h _ _)

  hands_on_marked : (st : HandleState) (stream : S) → hands_on st (handle h (waits Locking h s)).mark stream h (waits Locking h s) ≡ hands_on st (handle h s).mark stream h s
  hands_on_marked st stream = hands_on_again st (handle h (waits Locking h s)).mark stream ∙ ap (λ mark. hands_on st mark stream h s) entered_mark

  module _ (meaning : S → Meaning) (checked : S → S) where
    pub write_again : (wrote : S → List ℕ → S) (m : Meaning) (bytes : List ℕ) → write_by meaning checked wrote m h bytes (waits Locking h s) ≡ write_by meaning checked wrote m h bytes s
    write_again wrote (faulted f) bytes = ap (outcome _) (hands_on_marked _ _)
    write_again wrote closed bytes = ap (outcome _) (hands_on_marked _ _)
    write_again wrote (open_with zero) bytes = ap (outcome _) (waits_again _)
    write_again wrote (open_with (suc n)) bytes = ap (outcome _) (hands_on_again _ _ _)

    pub second_again : (flushed : S → S) (m : Meaning) → second_by meaning checked flushed m h (waits Locking h s) ≡ second_by meaning checked flushed m h s
    second_again flushed (faulted f) = ap (outcome _) (hands_on_again _ _ _)
    second_again flushed closed = ap (outcome _) (hands_on_again _ _ _)
    second_again flushed (open_with zero) = ap (outcome _) (waits_again _)
    second_again flushed (open_with (suc n)) = ap (outcome _) (hands_on_again _ _ _)

    pub first_again : (flushed : S → S) (m : Meaning) → first_by meaning checked flushed m h (waits Locking h s) ≡ first_by meaning checked flushed m h s
    first_again flushed (faulted f) = ap (outcome _) (hands_on_marked _ _)
    first_again flushed closed = ap (outcome _) (hands_on_marked _ _)
    first_again flushed (open_with zero) = ap (outcome _) (waits_again _)
    first_again flushed (open_with (suc n)) = ap (second_stage meaning checked flushed h) (hands_on_again _ _ _)
