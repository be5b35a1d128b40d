-- Each step goes one of a few ways: the case analysis of the rules, made once.
-- Assumes nothing.
use Rattle.std.proofs.Common.{◌≡◌, ℕ, zero, suc, ◌<◌, ◌≤◌, min, Bool, true, false, cond, ◌⊎◌, List, [], ◌∷◌, ◌++◌, length, get_or, take, set, Ok, Err, Option, Result, sym, refl, ap, ◌∙◌, inl, inr, arith, length-take, get_or-set_same}
use Rattle.std.proofs.Math.Path.{subst⁻¹}
use Rattle.std.proofs.Math.Decide.{dec_lt}
use Rattle.std.proofs.Math.ListN.{get_or-eq_default}
use Rattle.writer.specs.declared.answer.Fault.{Fault}
use Rattle.writer.specs.declared.answer.WriteAnswer.{WriteAnswer}
use Rattle.writer.specs.declared.answer.FlushAnswer.{FlushAnswer}
use Rattle.writer.specs.Meaning.{WriteMeans, FlushMeans}
use Rattle.stream.specs.declared.error.StreamError.{StreamError}
use Rattle.stream.specs.declared.error.StreamError.TheVariants.{LastOperationFailed, Closed as ClosedError, Trap}
use Rattle.worker_stream.specs.declared.write_stream.job.Turn.{Turn}
use Rattle.worker_stream.specs.declared.write_stream.worker.Status.TheVariants.{Alive, Faulted, Closed as ClosedStatus}
use Rattle.stream.specs.Questions.{answered}
use Rattle.stream.specs.Meaning.{Meaning, faulted, closed, open_with, permit, flush_answer}
use Rattle.worker_stream.specs.WorkerView.{WorkerView, with_pending, with_status, with_cancelled, fresh as stream_just_made}
use Rattle.worker_stream.specs.WorkerCalls.{meaning, meaning_of, checked, accepts, wrote, flushed, accept, left_by, write_refusal}
use Rattle.handles.specs.declared.handle.HandleState.{HandleState}
use Rattle.handles.specs.declared.handle.HandleState.TheVariants.{Ready, Locking, Locked, Closed, Dropped}
use Rattle.handles.specs.declared.handle.Poll.{Poll}
use Rattle.handles.specs.declared.handle.Poll.TheVariants.{Ready as Answer, Pending}
use Rattle.handles.specs.Errors.{HandleError, lock_held, no_such_handle}
use Rattle.handles.specs.declared.error.CallError.TheVariants.{Stream as StreamFailed}
use Rattle.promises.specs.SharedView.{HandleView, SharedView, dropped, handle, holds, joins, without, asked, waits, hands_on, leaves}
use Rattle.promises.specs.Polls.{Outcome, outcome, by_state, with_lock, write_by, write_some, poll_write, second_by, second_stage, first_by, first_stage, poll_flush, drop_handle}
use Rattle.promises.specs.Events.{Event, write, check, flush, cancel, turn, handle_write, handle_flush, handle_drop}
use Rattle.promises.specs.Steps.{direct, direct_write, direct_check, direct_flush, Gives, Turns, Step}
use Rattle.promises.specs.History.{History, start, ◌▷◌, Call, writes, flushes}
use Rattle.promises.specs.Promises.{Run, made, called}
use Rattle.promises.proofs.Streams.{impossible, WriterBytes, Stream, TurnWay, stream_of, bytes_of, turn_way, permits_of, alive_when_open, faulted_status, closed_status, checked_faulted, checked_closed, checked_open, flushed_faulted, flushed_closed, flushed_open, wrote_permitted, WriteWhy, accepts_it, finds_fault, finds_closed, is_trap, write_why}

-- the lock's queue and the handles
pub record Lock : Type 0 where
  pub queue : List ℕ
  pub handles : List HandleView

abbrev pub view_of : ℕ → Lock → HandleView
view_of i l = get_or l.handles i dropped

abbrev pub state_of : ℕ → Lock → HandleState
state_of i l = (view_of i l).state

abbrev pub mark_of : ℕ → Lock → Bool
mark_of i l = (view_of i l).mark

-- the queue once handle i has asked for the lock
abbrev pub entry : ℕ → Lock → List ℕ
entry i l = joins (state_of i l) i l.queue

abbrev pub put : ℕ → HandleView → List ℕ → Lock → Lock
put i x q l = record { queue = q; handles = set l.handles i x }

abbrev pub in_state : HandleState → Bool → HandleView
in_state st mark = record { state = st; mark = mark }

-- neither closed nor dropped
abbrev pub is_open : HandleState → Bool
is_open Ready = true
is_open Locking = true
is_open Locked = true
is_open Closed = false
is_open Dropped = false

abbrev pub Open : ℕ → Lock → Type 0
Open i l = is_open (state_of i l) ≡ true

-- a call that wants the lock
abbrev pub Wants : Call → Type 0
Wants (writes []) = ⊥
Wants (writes (b ∷ bytes)) = Unit {0}
Wants flushes = Unit {0}

-- the events of a handle's call, by its answer
abbrev pub waits_event : ℕ → Call → Event
waits_event i (writes bytes) = handle_write i bytes (Ok Pending)
waits_event i flushes = handle_flush i (Ok Pending)

abbrev pub ends_event : ℕ → Call → Event
ends_event i (writes bytes) = handle_write i bytes (Ok (Answer 0))
ends_event i flushes = handle_flush i (Ok (Answer tt))

abbrev pub error_event : HandleError → ℕ → Call → Event
error_event e i (writes bytes) = handle_write i bytes (Err e)
error_event e i flushes = handle_flush i (Err e)

-- a direct call that accepts nothing
abbrev pub accepts_nothing : Event → Type 0
accepts_nothing (write bytes (Ok u)) = ⊥
accepts_nothing (write bytes (Err e)) = Unit {0}
accepts_nothing (check r) = Unit {0}
accepts_nothing (flush (Ok u)) = ⊥
accepts_nothing (flush (Err e)) = Unit {0}
accepts_nothing cancel = ⊥
accepts_nothing (turn word) = ⊥
accepts_nothing (handle_write i bytes r) = ⊥
accepts_nothing (handle_flush i r) = ⊥
accepts_nothing (handle_drop i r) = ⊥

pub data Way (s : Stream) (l : Lock) : Event → Stream → Lock → Type 0 where
  passes : (e : Event) → accepts_nothing e → Way s l e s l
  tells_fault : (e : Event) (f : Fault) → accepts_nothing e → l.queue ≡ [] → s.status ≡ Faulted f → Way s l e (with_status ClosedStatus s) l
  writes_directly : (bytes : List ℕ) → l.queue ≡ [] → s.status ≡ Alive → s.pending ≡ false → length bytes ≤ s.free → length s.unfinished < 256
      → Way s l (write bytes (Ok tt)) (accept bytes s) l
  flushes_directly : l.queue ≡ [] → s.status ≡ Alive → Way s l (flush (Ok tt)) (with_pending true s) l
  cancels : Way s l cancel (with_cancelled true s) l
  turns : {word : Turn} {t : Stream} → TurnWay s word t → Way s l (turn word) t l
  no_handle : (i : ℕ) (a : Call) → state_of i l ≡ Dropped → Way s l (error_event no_such_handle i a) s l
  no_handle_to_drop : (i : ℕ) → state_of i l ≡ Dropped → Way s l (handle_drop i (Err no_such_handle)) s l
  drops : (i : ℕ) → ¬ (state_of i l ≡ Dropped) → Way s l (handle_drop i (Ok tt)) s (put i dropped (without i l.queue) l)
  already_closed : (i : ℕ) (a : Call) → state_of i l ≡ Closed → Way s l (ends_event i a) s l
  writes_nothing : (i : ℕ) → Open i l → Way s l (handle_write i [] (Ok (Answer 0))) s l
  lines_up : (i : ℕ) (a : Call) → Wants a → Open i l → holds i (entry i l) ≡ false → Way s l (waits_event i a) s (put i (in_state Locking (mark_of i l)) (entry i l) l)
  keeps_lock : (i : ℕ) (a : Call) → Wants a → Open i l → holds i (entry i l) ≡ true → meaning s ≡ open_with 0 → Way s l (waits_event i a) s (put i (in_state Locked (mark_of i l)) (entry i l) l)
  meets_fault : (i : ℕ) (a : Call) (f : Fault) (mark : Bool) → Wants a → Open i l → holds i (entry i l) ≡ true → s.status ≡ Faulted f
      → Way s l (error_event (StreamFailed (LastOperationFailed f)) i a) (with_status ClosedStatus s) (put i (in_state Closed mark) (without i (entry i l)) l)
  meets_closed : (i : ℕ) (a : Call) (mark : Bool) → Wants a → Open i l → holds i (entry i l) ≡ true → s.status ≡ ClosedStatus
      → Way s l (ends_event i a) s (put i (in_state Closed mark) (without i (entry i l)) l)
  writes_part : (i b : ℕ) (bytes : List ℕ) (n : ℕ) → Open i l → holds i (entry i l) ≡ true → meaning s ≡ open_with (suc n)
      → Way s l (handle_write i (b ∷ bytes) (Ok (Answer (min (suc n) (length (b ∷ bytes)))))) (accept (take (suc n) (b ∷ bytes)) s) (put i (in_state Ready false) (without i (entry i l)) l)
  begins_flush : (i n : ℕ) (st : HandleState) → (st ≡ Locking) ⊎ (st ≡ Locked) → Open i l → mark_of i l ≡ false → holds i (entry i l) ≡ true → meaning s ≡ open_with (suc n)
      → Way s l (handle_flush i (Ok Pending)) (with_pending true s) (put i (in_state st true) (without i (entry i l) ++ i ∷ []) (put i (in_state Ready true) (without i (entry i l)) l))
  ends_flush : (i n : ℕ) → Open i l → mark_of i l ≡ true → holds i (entry i l) ≡ true → meaning s ≡ open_with (suc n)
      → Way s l (handle_flush i (Ok (Answer tt))) s (put i (in_state Ready false) (without i (entry i l)) l)

-- an open handle is one of the table
pub open_below : (i : ℕ) (l : Lock) → Open i l → i < length l.handles
open_below i l o = go (dec_lt i (length l.handles))
  where
    go : Dec (i < length l.handles) → i < length l.handles
    go (yes h) = h
    go (no h) =
        let e : view_of i l ≡ dropped = get_or-eq_default l.handles dropped (omega arith) in
        let z : false ≡ true = sym (ap (λ (x : HandleView). is_open x.state) e) ∙ o in
        impossible (cc)

module _ {V : Type 0} (taken : V → List ℕ) (covered : V → ℕ) where
  abbrev pub stream_in : SharedView (WorkerView V) → Stream
  stream_in s = stream_of taken covered s.stream

  abbrev pub lock_in : SharedView (WorkerView V) → Lock
  lock_in s = record { queue = s.queue; handles = s.handles }

  module _ (s : SharedView (WorkerView V)) where
    abbrev Leads : {R : Type 0} → (R → Event) → Outcome R (WorkerView V) → Type 0
    Leads e o = Way (stream_in s) (lock_in s) (e o.answer) (stream_in o.left) (lock_in o.left)

    gives_way : {R : Type 0} (e : R → Event) (o : Outcome R (WorkerView V)) (r : R) (t : SharedView (WorkerView V)) → Gives o r t → Leads e o
        → Way (stream_in s) (lock_in s) (e r) (stream_in t) (lock_in t)
    gives_way {R} e o r t g k =
        subst⁻¹ (λ (x : R). Way (stream_in s) (lock_in s) (e x) (stream_in t) (lock_in t)) g.told
        (subst⁻¹ (λ (x : SharedView (WorkerView V)). Way (stream_in s) (lock_in s) (e o.answer) (stream_in x) (lock_in x)) g.left k)

    -- the same way with another name for the stream left
    leaves_stream : {e : Event} {l : Lock} (x y : WorkerView V) → x ≡ y → Way (stream_in s) (lock_in s) e (stream_of taken covered y) l → Way (stream_in s) (lock_in s) e (stream_of taken covered x) l
    leaves_stream {e} {l} x y q k = subst⁻¹ (λ (z : WorkerView V). Way (stream_in s) (lock_in s) e (stream_of taken covered z) l) q k

    abbrev str : WorkerView V
    str = s.stream

    direct_write_way : (q : List ℕ) (bytes : List ℕ) (o : Option StreamError) → s.queue ≡ q → WriteWhy str bytes o → Leads (write bytes) (direct q (answered o tt) (left_by o str (accept bytes str)) s)
    direct_write_way (x ∷ q) bytes o hq w = passes (write bytes (Err lock_held)) tt
    direct_write_way [] bytes o hq (accepts_it a p f r) = writes_directly bytes hq a p f r
    direct_write_way [] bytes o hq (finds_fault f hf) = tells_fault (write bytes (Err (StreamFailed (LastOperationFailed f)))) f tt hq hf
    direct_write_way [] bytes o hq finds_closed = passes (write bytes (Err (StreamFailed ClosedError))) tt
    direct_write_way [] bytes o hq (is_trap e) = passes (write bytes (Err (StreamFailed (Trap e)))) tt

    direct_check_way : (q : List ℕ) (m : Meaning) → s.queue ≡ q → meaning str ≡ m → Leads check (direct q (permit m) (checked str) s)
    direct_check_way (x ∷ q) m hq hm = passes (check (Err lock_held)) tt
    direct_check_way [] (faulted f) hq hm = let h = faulted_status str f hm in leaves_stream (checked str) (with_status ClosedStatus str) (checked_faulted str f h) (tells_fault (check (Err (StreamFailed (LastOperationFailed f)))) f tt hq h)
    direct_check_way [] closed hq hm = leaves_stream (checked str) str (checked_closed str (closed_status str hm)) (passes (check (Err (StreamFailed ClosedError))) tt)
    direct_check_way [] (open_with n) hq hm = leaves_stream (checked str) str (checked_open str (alive_when_open str n hm)) (passes (check (Ok n)) tt)

    direct_flush_way : (q : List ℕ) (m : Meaning) → s.queue ≡ q → meaning str ≡ m → Leads flush (direct q (flush_answer m) (flushed str) s)
    direct_flush_way (x ∷ q) m hq hm = passes (flush (Err lock_held)) tt
    direct_flush_way [] (faulted f) hq hm = let h = faulted_status str f hm in leaves_stream (flushed str) (with_status ClosedStatus str) (flushed_faulted str f h) (tells_fault (flush (Err (StreamFailed (LastOperationFailed f)))) f tt hq h)
    direct_flush_way [] closed hq hm = leaves_stream (flushed str) str (flushed_closed str (closed_status str hm)) (passes (flush (Err (StreamFailed ClosedError))) tt)
    direct_flush_way [] (open_with n) hq hm = let h = alive_when_open str n hm in leaves_stream (flushed str) (with_pending true str) (flushed_open str h) (flushes_directly hq h)

    drop_way : (i : ℕ) (st : HandleState) → (handle i s).state ≡ st → Leads (handle_drop i) (by_state st s (outcome (Ok tt) (leaves i s)) (outcome (Ok tt) (leaves i s)))
    drop_way i Ready e = drops i (λ z. let y : Ready ≡ Dropped = sym e ∙ z in impossible (cc))
    drop_way i Locking e = drops i (λ z. let y : Locking ≡ Dropped = sym e ∙ z in impossible (cc))
    drop_way i Locked e = drops i (λ z. let y : Locked ≡ Dropped = sym e ∙ z in impossible (cc))
    drop_way i Closed e = drops i (λ z. let y : Closed ≡ Dropped = sym e ∙ z in impossible (cc))
    drop_way i Dropped e = no_handle_to_drop i e

    module _ (i : ℕ) (op : Open i (lock_in s)) where
      write_by_way : (m : Meaning) (b : ℕ) (bytes : List ℕ) → meaning str ≡ m → holds i (asked i s) ≡ true → Leads (handle_write i (b ∷ bytes)) (write_by meaning checked wrote m i (b ∷ bytes) s)
      write_by_way (faulted f) b bytes hm hh =
          let h = faulted_status str f hm in
          leaves_stream (checked str) (with_status ClosedStatus str) (checked_faulted str f h) (meets_fault i (writes (b ∷ bytes)) f (handle i s).mark tt op hh h)
      write_by_way closed b bytes hm hh = let h = closed_status str hm in leaves_stream (checked str) str (checked_closed str h) (meets_closed i (writes (b ∷ bytes)) (handle i s).mark tt op hh h)
      write_by_way (open_with zero) b bytes hm hh = keeps_lock i (writes (b ∷ bytes)) tt op hh hm
      write_by_way (open_with (suc n)) b bytes hm hh =
          leaves_stream (wrote str (take (suc n) (b ∷ bytes))) (accept (take (suc n) (b ∷ bytes)) str)
          (wrote_permitted str n (take (suc n) (b ∷ bytes)) (permits_of str n hm) (let k = length-take (suc n) (b ∷ bytes) in omega arith))
          (writes_part i b bytes n op hh hm)

      write_lock_way : (t : Bool) (b : ℕ) (bytes : List ℕ) → holds i (asked i s) ≡ t
          → Leads (handle_write i (b ∷ bytes)) (cond t (write_by meaning checked wrote (meaning str) i (b ∷ bytes) s) (outcome (Ok Pending) (waits Locking i s)))
      write_lock_way true b bytes hh = write_by_way (meaning str) b bytes refl hh
      write_lock_way false b bytes hh = lines_up i (writes (b ∷ bytes)) tt op hh

      write_some_way : (bytes : List ℕ) → Leads (handle_write i bytes) (write_some meaning checked wrote i bytes s)
      write_some_way [] = writes_nothing i op
      write_some_way (b ∷ bytes) = write_lock_way (holds i (asked i s)) b bytes refl

      second_by_way : (m : Meaning) → meaning str ≡ m → (handle i s).mark ≡ true → holds i (asked i s) ≡ true → Leads (handle_flush i) (second_by meaning checked flushed m i s)
      second_by_way (faulted f) hm mk hh = let h = faulted_status str f hm in leaves_stream (checked str) (with_status ClosedStatus str) (checked_faulted str f h) (meets_fault i flushes f false tt op hh h)
      second_by_way closed hm mk hh = let h = closed_status str hm in leaves_stream (checked str) str (checked_closed str h) (meets_closed i flushes false tt op hh h)
      second_by_way (open_with zero) hm mk hh = keeps_lock i flushes tt op hh hm
      second_by_way (open_with (suc n)) hm mk hh = leaves_stream (checked str) str (checked_open str (alive_when_open str (suc n) hm)) (ends_flush i n op mk hh hm)

      second_lock_way : (t : Bool) → holds i (asked i s) ≡ t → (handle i s).mark ≡ true → Leads (handle_flush i) (cond t (second_by meaning checked flushed (meaning str) i s) (outcome (Ok Pending) (waits Locking i s)))
      second_lock_way true hh mk = second_by_way (meaning str) refl mk hh
      second_lock_way false hh mk = lines_up i flushes tt op hh

      -- the queue and the handles between the two stages of a flush
      abbrev handed : List ℕ
      handed = without i (asked i s)

      abbrev between : List HandleView
      between = set s.handles i (in_state Ready true)

      -- a flush that waits in its second stage, handle i being seen as x when it took the lock anew
      abbrev waits_anew : HandleState → HandleView → Outcome (Result (Poll (Unit {0})) HandleError) (WorkerView V)
      waits_anew st x = outcome (Ok Pending) (record { stream = with_pending true str; queue = joins x.state i handed; handles = set between i (in_state st x.mark) })

      anew_way : (n : ℕ) (t : Bool) → meaning str ≡ open_with (suc n) → (handle i s).mark ≡ false → holds i (asked i s) ≡ true
          → Leads (handle_flush i) (cond t (waits_anew Locked (in_state Ready true)) (waits_anew Locking (in_state Ready true)))
      anew_way n true hm mk hh = begins_flush i n Locked (inr refl) op mk hh hm
      anew_way n false hm mk hh = begins_flush i n Locking (inl refl) op mk hh hm

      -- after a first stage the stream is not ready, so the second stage waits
      began_way : (n : ℕ) → meaning str ≡ open_with (suc n) → (handle i s).mark ≡ false → holds i (asked i s) ≡ true
          → Leads (handle_flush i) (second_stage meaning checked flushed i (hands_on Ready true (flushed str) i s))
      began_way n hm mk hh =
          let live = alive_when_open str (suc n) hm in
          let s₁ : SharedView (WorkerView V) = hands_on Ready true (with_pending true str) i s in
          let own : get_or between i dropped ≡ in_state Ready true = get_or-set_same s.handles i (in_state Ready true) dropped (open_below i (lock_in s) op) in
          subst⁻¹ (λ (x : WorkerView V). Leads (handle_flush i) (second_stage meaning checked flushed i (hands_on Ready true x i s))) (flushed_open str live)
          (subst⁻¹ (λ (m : Meaning). Leads (handle_flush i) (with_lock i s₁ (second_by meaning checked flushed m i s₁))) (ap (λ (st : _). meaning_of st 0) live)
          (subst⁻¹ (λ (x : HandleView). Leads (handle_flush i) (cond (holds i (joins x.state i handed)) (waits_anew Locked x) (waits_anew Locking x))) own
          (anew_way n (holds i (handed ++ i ∷ [])) hm mk hh)))

      first_by_way : (m : Meaning) → meaning str ≡ m → (handle i s).mark ≡ false → holds i (asked i s) ≡ true → Leads (handle_flush i) (first_by meaning checked flushed m i s)
      first_by_way (faulted f) hm mk hh = let h = faulted_status str f hm in leaves_stream (flushed str) (with_status ClosedStatus str) (flushed_faulted str f h) (meets_fault i flushes f (handle i s).mark tt op hh h)
      first_by_way closed hm mk hh = let h = closed_status str hm in leaves_stream (flushed str) str (flushed_closed str h) (meets_closed i flushes (handle i s).mark tt op hh h)
      first_by_way (open_with zero) hm mk hh = keeps_lock i flushes tt op hh hm
      first_by_way (open_with (suc n)) hm mk hh = began_way n hm mk hh

      first_lock_way : (t : Bool) → holds i (asked i s) ≡ t → (handle i s).mark ≡ false → Leads (handle_flush i) (cond t (first_by meaning checked flushed (meaning str) i s) (outcome (Ok Pending) (waits Locking i s)))
      first_lock_way true hh mk = first_by_way (meaning str) refl mk hh
      first_lock_way false hh mk = lines_up i flushes tt op hh

      flush_mark_way : (m : Bool) → (handle i s).mark ≡ m → Leads (handle_flush i) (cond m (second_stage meaning checked flushed i s) (first_stage meaning checked flushed i s))
      flush_mark_way true mk = second_lock_way (holds i (asked i s)) refl mk
      flush_mark_way false mk = first_lock_way (holds i (asked i s)) refl mk

    write_way : (i : ℕ) (bytes : List ℕ) (st : HandleState) → (handle i s).state ≡ st
        → Leads (handle_write i bytes) (by_state st s (outcome (Ok (Answer 0)) s) (write_some meaning checked wrote i bytes s))
    write_way i bytes Ready e = write_some_way i (ap is_open e) bytes
    write_way i bytes Locking e = write_some_way i (ap is_open e) bytes
    write_way i bytes Locked e = write_some_way i (ap is_open e) bytes
    write_way i bytes Closed e = already_closed i (writes bytes) e
    write_way i bytes Dropped e = no_handle i (writes bytes) e

    flush_way : (i : ℕ) (st : HandleState) → (handle i s).state ≡ st
        → Leads (handle_flush i) (by_state st s (outcome (Ok (Answer tt)) s) (cond (handle i s).mark (second_stage meaning checked flushed i s) (first_stage meaning checked flushed i s)))
    flush_way i Ready e = flush_mark_way i (ap is_open e) (handle i s).mark refl
    flush_way i Locking e = flush_mark_way i (ap is_open e) (handle i s).mark refl
    flush_way i Locked e = flush_mark_way i (ap is_open e) (handle i s).mark refl
    flush_way i Closed e = already_closed i flushes e
    flush_way i Dropped e = no_handle i flushes e

  module _
      {writes_rel : V → List ℕ → WriteAnswer → V → Type 0} {flushes_rel : V → FlushAnswer → V → Type 0}
      (wrote_law : (a b : V) (part : List ℕ) (r : WriteAnswer) → writes_rel a part r b → WriteMeans (taken a) (covered a) part r (taken b) (covered b))
      (flushed_law : (a b : V) (r : FlushAnswer) → flushes_rel a r b → FlushMeans (taken a) (covered a) r (taken b) (covered b))
    where
      turns_way : (s t : SharedView (WorkerView V)) (word : Turn) → Turns writes_rel flushes_rel s word t → Way (stream_in s) (lock_in s) (turn word) (stream_in t) (lock_in t)
      turns_way s t word g =
          subst⁻¹ (λ (q : List ℕ). Way (stream_in s) (lock_in s) (turn word) (stream_in t) (record { queue = q; handles = t.handles })) g.queue
          (subst⁻¹ (λ (hs : List HandleView). Way (stream_in s) (lock_in s) (turn word) (stream_in t) (record { queue = s.queue; handles = hs })) g.handles
          (turns (turn_way taken covered wrote_law flushed_law s.stream t.stream word g.stream)))

      pub step_way : (s : SharedView (WorkerView V)) (e : Event) (t : SharedView (WorkerView V)) → Step writes_rel flushes_rel s e t → Way (stream_in s) (lock_in s) e (stream_in t) (lock_in t)
      step_way s (write bytes r) t g = gives_way s (write bytes) (direct_write accepts wrote bytes s) r t g (direct_write_way s s.queue bytes (write_refusal s.stream bytes) refl (write_why s.stream bytes))
      step_way s (check r) t g = gives_way s check (direct_check meaning checked s) r t g (direct_check_way s s.queue (meaning s.stream) refl refl)
      step_way s (flush r) t g = gives_way s flush (direct_flush meaning flushed s) r t g (direct_flush_way s s.queue (meaning s.stream) refl refl)
      step_way s cancel t g = subst⁻¹ (λ (x : SharedView (WorkerView V)). Way (stream_in s) (lock_in s) cancel (stream_in x) (lock_in x)) g cancels
      step_way s (turn word) t g = turns_way s t word g
      step_way s (handle_write i bytes r) t g = gives_way s (handle_write i bytes) (poll_write meaning checked wrote i bytes s) r t g (write_way s i bytes (handle i s).state refl)
      step_way s (handle_flush i r) t g = gives_way s (handle_flush i) (poll_flush meaning checked flushed i s) r t g (flush_way s i (handle i s).state refl)
      step_way s (handle_drop i r) t g = gives_way s (handle_drop i) (drop_handle i s) r t g (drop_way s i (handle i s).state refl)

-- a run made of ways, from a stream just made over a writer with these bytes
pub data Path (B h : ℕ) (w : WriterBytes) : History → Stream → Lock → Type 0 where
  fresh_path : Path B h w start (stream_just_made B w) (record { queue = []; handles = lib.ListN.replicate h (in_state Ready false) })
  one_more : {es : History} {e : Event} {s t : Stream} {l k : Lock} → Path B h w es s l → Way s l e t k → Path B h w (es ▷ e) t k

pub path_of : {V : Type 0} (taken : V → List ℕ) (covered : V → ℕ) {writes_rel : V → List ℕ → WriteAnswer → V → Type 0} {flushes_rel : V → FlushAnswer → V → Type 0}
    (wrote_law : (a b : V) (part : List ℕ) (r : WriteAnswer) → writes_rel a part r b → WriteMeans (taken a) (covered a) part r (taken b) (covered b))
    (flushed_law : (a b : V) (r : FlushAnswer) → flushes_rel a r b → FlushMeans (taken a) (covered a) r (taken b) (covered b))
    {B h : ℕ} {w : V} {es : History} {s : SharedView (WorkerView V)} → Run writes_rel flushes_rel B h w es s → Path B h (bytes_of taken covered w) es (stream_in taken covered s) (lock_in taken covered s)
path_of taken covered wrote_law flushed_law made = fresh_path
path_of taken covered wrote_law flushed_law (called {e = e} {s = s} {t = t} r st) =
    one_more (path_of taken covered wrote_law flushed_law r) (step_way taken covered wrote_law flushed_law s e t st)
