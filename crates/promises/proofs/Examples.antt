-- The two example runs, step by step.
-- Assumes nothing.
use Rattle.std.proofs.Common.{◌≡◌, ℕ, suc, ◌+◌, ◌⊎◌, List, [], ◌∷◌, ◌++◌, length, Ok, sym, refl, ap, ◌∙◌, subst, inl, inr, arith, take_all}
use Rattle.std.proofs.Math.Path.{subst⁻¹}
use Rattle.writer.specs.Meaning.{WriteMeans, FlushMeans}
use Rattle.writer.specs.declared.answer.WriteAnswer.{WriteAnswer}
use Rattle.writer.specs.declared.answer.WriteAnswer.TheVariants.{Took}
use Rattle.writer.specs.declared.answer.FlushAnswer.{FlushAnswer}
use Rattle.writer.specs.declared.answer.FlushAnswer.TheVariants.{Done}
use Rattle.worker_stream.specs.WorkerView.{WorkerView, with_writer, fresh as stream_just_made}
use Rattle.worker_stream.specs.WorkerTurn.{after_write, after_flush}
use Rattle.worker_stream.specs.WorkerCalls.{meaning, checked, accepts, wrote, flushed}
use Rattle.worker_stream.specs.declared.write_stream.job.Turn.TheVariants.{Finished}
use Rattle.handles.specs.declared.handle.Poll.TheVariants.{Ready as Answer, Pending}
use Rattle.promises.specs.SharedView.{SharedView, with_stream, fresh}
use Rattle.promises.specs.Polls.{poll_write, poll_flush}
use Rattle.promises.specs.Events.{turn, handle_write}
use Rattle.promises.specs.Steps.{direct_write}
use Rattle.promises.specs.History.{History, start, ◌▷◌, ◌▷▷◌, Call, writes, not_yet, answered, polled, nothing, Unanswered, Polled, Round, none, round}
use Rattle.promises.specs.Promises.{Run, made, called}
use Rattle.promises.specs.Examples.{Bytes, takes_all, covers_all, nothing_taken, Lawful, waiting_history, WaitingRun, first_poll_history, FirstPollCounts}
use Rattle.promises.proofs.Streams.{impossible}
use Rattle.promises.proofs.Rounds.{AllAlong, at_last}

pub lawful : Lawful
lawful = record { wrote = takes; flushed = covers }
  where
    takes : (a b : Bytes) (part : List ℕ) (r : WriteAnswer) → takes_all a part r b → WriteMeans a.taken a.covered part r b.taken b.covered
    takes a b part r t =
        subst⁻¹ (λ (x : WriteAnswer). WriteMeans a.taken a.covered part x b.taken b.covered) t.0
        (record {
          within = omega arith;
          bytes = ap (λ (x : Bytes). x.taken) t.1 ∙ ap (λ (x : List ℕ). a.taken ++ x) (sym (take_all (length part) part (omega arith)));
          count = ap (λ (x : Bytes). x.covered) t.1;
        })

    covers : (a b : Bytes) (r : FlushAnswer) → covers_all a r b → FlushMeans a.taken a.covered r b.taken b.covered
    covers a b r t =
        subst⁻¹ (λ (x : FlushAnswer). FlushMeans a.taken a.covered x b.taken b.covered) t.0
        (record { bytes = ap (λ (x : Bytes). x.taken) t.1; count = ap (λ (x : Bytes). x.covered) t.1 })

abbrev Shared : Type 0
Shared = SharedView (WorkerView Bytes)

-- a poll, and a turn at which the writer takes all of a part or covers all that it took
abbrev writes_on : ℕ → List ℕ → Shared → Shared
writes_on i bytes s = (poll_write meaning checked wrote i bytes s).left

abbrev flushes_on : ℕ → Shared → Shared
flushes_on i s = (poll_flush meaning checked flushed i s).left

abbrev bytes_after : List ℕ → Shared → Bytes
bytes_after part s = record { taken = s.stream.writer.taken ++ part; covered = s.stream.writer.covered }

abbrev takes_on : List ℕ → Shared → Shared
takes_on part s = with_stream (after_write (Took (length part)) (length part) (with_writer (bytes_after part s) s.stream)).view s

abbrev bytes_covered : Shared → Bytes
bytes_covered s = record { taken = s.stream.writer.taken; covered = length s.stream.writer.taken }

abbrev covers_on : Shared → Shared
covers_on s = with_stream (after_flush Done (with_writer (bytes_covered s) s.stream)).view s

-- the first run
abbrev a₀ : Shared
a₀ = fresh (stream_just_made 1 nothing_taken) 2

abbrev a₃ : Shared
a₃ = writes_on 1 (8 ∷ []) (writes_on 0 (7 ∷ []) (writes_on 0 (7 ∷ 7 ∷ []) a₀))

abbrev a₄ : Shared
a₄ = takes_on (7 ∷ []) a₃

abbrev a₆ : Shared
a₆ = writes_on 1 (8 ∷ []) (writes_on 0 (7 ∷ []) a₄)

waiting_run : Run takes_all covers_all 1 2 nothing_taken waiting_history a₆
waiting_run =
    called {s = writes_on 0 (7 ∷ []) a₄} (called {s = a₄} (called {s = a₃} (called {s = writes_on 0 (7 ∷ []) (writes_on 0 (7 ∷ 7 ∷ []) a₀)} (called {s = writes_on 0 (7 ∷ 7 ∷ []) a₀} (called {s = a₀} made
    (record { told = refl; left = refl })) (record { told = refl; left = refl })) (record { told = refl; left = refl }))
    (record { stream = record { answer = Took 1; writer = bytes_after (7 ∷ []) a₃; tells = (refl, refl); gives = record { word = refl; view = refl } }; queue = refl; handles = refl }))
    (record { told = refl; left = refl })) (record { told = refl; left = refl })

-- the second run
abbrev b₀ : Shared
b₀ = fresh (stream_just_made 2 nothing_taken) 2

abbrev b₁ : Shared
b₁ = (direct_write accepts wrote (7 ∷ 7 ∷ []) b₀).left

abbrev b₃ : Shared
b₃ = writes_on 1 (9 ∷ []) (flushes_on 0 b₁)

abbrev b₄ : Shared
b₄ = takes_on (7 ∷ 7 ∷ []) b₃

abbrev b₅ : Shared
b₅ = flushes_on 0 b₄

abbrev b₆ : Shared
b₆ = covers_on b₅

abbrev b₈ : Shared
b₈ = flushes_on 0 (writes_on 1 (9 ∷ []) b₆)

first_poll_run : Run takes_all covers_all 2 2 nothing_taken first_poll_history b₈
first_poll_run =
    called {s = writes_on 1 (9 ∷ []) b₆} (called {s = b₆} (called {s = b₅} (called {s = b₄} (called {s = b₃} (called {s = flushes_on 0 b₁} (called {s = b₁} (called {s = b₀} made
    (record { told = refl; left = refl })) (record { told = refl; left = refl })) (record { told = refl; left = refl }))
    (record { stream = record { answer = Took 2; writer = bytes_after (7 ∷ 7 ∷ []) b₃; tells = (refl, refl); gives = record { word = refl; view = refl } }; queue = refl; handles = refl }))
    (record { told = refl; left = refl }))
    (record { stream = record { answer = Done; writer = bytes_covered b₅; tells = (refl, refl); gives = record { word = refl; view = refl } }; queue = refl; handles = refl }))
    (record { told = refl; left = refl })) (record { told = refl; left = refl })

pub first_poll_counts : FirstPollCounts
first_poll_counts = record { left = b₈; run = first_poll_run; still_open = refl; accepted_first = refl; accepted_last = refl; covered = refl }

-- what is unanswered all along is so at each history between
abbrev size : History → ℕ
size start = 0
size (es ▷ e) = suc (size es)

size_then : (x y : History) → size (x ▷▷ y) ≡ size x + size y
size_then x start = omega arith
size_then x (y ▷ e) = let k = size_then x y in omega arith

unbroken_in : (i : ℕ) (a : Call) (base later mid since rest : History) → AllAlong i a base later → mid ≡ base ▷▷ since → base ▷▷ later ≡ mid ▷▷ rest → Unanswered i a mid
unbroken_in i a base later mid since start along p q = subst (λ (x : History). Unanswered i a x) q (at_last i a base later along)
unbroken_in i a base start mid since (rest ▷ e) along p q =
    let x = ap size p in let y = ap size q in let z = size_then base since in let w = size_then mid rest in absurd (omega arith)
unbroken_in i a base (later ▷ e') mid since (rest ▷ e) along p q = let z : base ▷▷ later ≡ mid ▷▷ rest = cc in unbroken_in i a base later mid since rest along.0 p z

-- the histories of the first run
abbrev h₁ : History
h₁ = start ▷ handle_write 0 (7 ∷ 7 ∷ []) (Ok (Answer 1))

abbrev h₂ : History
h₂ = h₁ ▷ handle_write 0 (7 ∷ []) (Ok Pending)

abbrev h₃ : History
h₃ = h₂ ▷ handle_write 1 (8 ∷ []) (Ok Pending)

abbrev h₄ : History
h₄ = h₃ ▷ turn (Finished 1)

abbrev h₅ : History
h₅ = h₄ ▷ handle_write 0 (7 ∷ []) (Ok (Answer 1))

abbrev ours : Call
ours = writes (8 ∷ [])

-- which calls are unanswered there
at_h₁ : (i : ℕ) (c : Call) → ¬ (Unanswered i c h₁)
at_h₁ i c (inl q) = impossible (cc)
at_h₁ i c (inr u) = u.0

at_h₂ : (i : ℕ) (c : Call) → Unanswered i c h₂ → polled 0 (writes (7 ∷ [])) not_yet ≡ polled i c not_yet
at_h₂ i c (inl q) = q
at_h₂ i c (inr u) = absurd (at_h₁ i c u.0)

at_h₃ : (i : ℕ) (c : Call) → Unanswered i c h₃ → (polled 1 ours not_yet ≡ polled i c not_yet) ⊎ (polled 0 (writes (7 ∷ [])) not_yet ≡ polled i c not_yet)
at_h₃ i c (inl q) = inl q
at_h₃ i c (inr u) = inr (at_h₂ i c u.0)

at_h₄ : (i : ℕ) (c : Call) → Unanswered i c h₄ → (polled 1 ours not_yet ≡ polled i c not_yet) ⊎ (polled 0 (writes (7 ∷ [])) not_yet ≡ polled i c not_yet)
at_h₄ i c (inl q) = impossible (cc)
at_h₄ i c (inr u) = at_h₃ i c u.0

at_h₅ : (i : ℕ) (c : Call) → Unanswered i c h₅ → (polled 1 ours not_yet ≡ polled i c not_yet) ⊎ (polled 0 (writes (7 ∷ [])) not_yet ≡ polled i c not_yet)
at_h₅ i c (inl q) = impossible (cc)
at_h₅ i c (inr u) = at_h₄ i c u.0

call_of : (i : ℕ) (a c : Call) → polled i a not_yet ≡ polled i c not_yet → c ≡ a
call_of i a c q = cc

apart : (a c : Call) → polled 0 a not_yet ≡ polled 1 c not_yet → ⊥
apart a c q = impossible (cc)

of_0 : (c : Call) → (polled 1 ours not_yet ≡ polled 0 c not_yet) ⊎ (polled 0 (writes (7 ∷ [])) not_yet ≡ polled 0 c not_yet) → c ≡ writes (7 ∷ [])
of_0 c (inl q) = absurd (apart c ours (sym q))
of_0 c (inr q) = call_of 0 (writes (7 ∷ [])) c q

of_1 : (c : Call) → (polled 1 ours not_yet ≡ polled 1 c not_yet) ⊎ (polled 0 (writes (7 ∷ [])) not_yet ≡ polled 1 c not_yet) → c ≡ ours
of_1 c (inl q) = call_of 1 ours c q
of_1 c (inr q) = absurd (apart (writes (7 ∷ [])) c q)

later : History
later = start ▷ handle_write 0 (7 ∷ []) (Ok (Answer 1)) ▷ handle_write 1 (8 ∷ []) (Ok Pending)

the_round : Round h₃ waiting_history
unfolding later
the_round = record { word = Finished 1; later = later; shape = refl; progress = λ z. impossible (cc); polls = λ i c u v. go i c (at_h₃ i c u) }
  where
    go : (i : ℕ) (c : Call) → (polled 1 ours not_yet ≡ polled i c not_yet) ⊎ (polled 0 (writes (7 ∷ [])) not_yet ≡ polled i c not_yet) → Polled i c later
    go i c (inl q) = inr (not_yet, q)
    go i c (inr q) = inl (inr (answered, cc))

all_along : AllAlong 1 ours h₃ (start ▷ turn (Finished 1) ▷ handle_write 0 (7 ∷ []) (Ok (Answer 1)) ▷ handle_write 1 (8 ∷ []) (Ok Pending))
all_along = (((inl refl, u₄), u₅), inl refl)
  where
    u₄ : Unanswered 1 ours h₄
    u₄ = inr (inl refl, λ z. go z)
      where
        go : (nothing ≡ polled 1 ours answered) ⊎ (nothing ≡ Rattle.promises.specs.History.dropped 1) → ⊥
        go (inl q) = impossible (cc)
        go (inr q) = impossible (cc)

    u₅ : Unanswered 1 ours h₅
    u₅ = inr (u₄, λ z. go z)
      where
        go : (polled 0 (writes (7 ∷ [])) answered ≡ polled 1 ours answered) ⊎ (polled 0 (writes (7 ∷ [])) answered ≡ Rattle.promises.specs.History.dropped 1) → ⊥
        go (inl q) = impossible (cc)
        go (inr q) = impossible (cc)

pub waiting_run_exists : WaitingRun
waiting_run_exists =
    record {
      left = a₆;
      run = waiting_run;
      no_cancel = (((((((tt, λ z. impossible (cc)), λ z. impossible (cc)), λ z. impossible (cc)), λ z. impossible (cc)), λ z. impossible (cc)), λ z. impossible (cc)));
      patient =
          ((((((tt, λ c u. absurd u), λ c u. absurd (at_h₁ 0 c u)), λ c u. absurd (apart (writes (7 ∷ [])) c (at_h₂ 1 c u))), tt), λ c u. of_0 c (at_h₄ 0 c u)), λ c u. of_1 c (at_h₅ 1 c u));
      waiting =
          record {
            before = h₂;
            poll = handle_write 1 (8 ∷ []) (Ok Pending);
            first = λ u. apart (writes (7 ∷ [])) ours (at_h₂ 1 ours u);
            unbroken = λ mid x.
                unbroken_in 1 ours h₃ (start ▷ turn (Finished 1) ▷ handle_write 0 (7 ∷ []) (Ok (Answer 1)) ▷ handle_write 1 (8 ∷ []) (Ok Pending)) mid x.since x.later all_along x.from x.to;
            rounds = round none the_round;
          };
    }
