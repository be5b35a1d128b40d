-- The weight of a stream: how much host turns have still to do before it is ready.
-- Assumes nothing.
use Rattle.std.proofs.Common.{◌≡◌, ℕ, zero, suc, ◌+◌, ◌-◌, ◌<◌, ◌≤◌, max, Bool, true, false, cond, ◌⊎◌, List, [], ◌∷◌, length, refl, ap, subst, inl, inr, arith}
use Rattle.std.proofs.lemmas.Bool.{both_ways}
use Rattle.worker_stream.specs.StoreView.{oldest}
use Rattle.worker_stream.specs.declared.write_stream.job.Turn.{Turn}
use Rattle.worker_stream.specs.declared.write_stream.job.Turn.TheVariants.{NotYet}
use Rattle.worker_stream.specs.declared.write_stream.worker.Status.TheVariants.{Alive}
use Rattle.stream.specs.Meaning.{Meaning, faulted, closed, open_with, ready}
use Rattle.worker_stream.specs.WorkerCalls.{meaning}
use Rattle.promises.specs.History.{History}
use Rattle.promises.specs.Promises.{total}
use Rattle.promises.proofs.Streams.{impossible, Stream, TurnWay, stops, finishing, moving, waiting, failing, covering, idle, Permits, permits_of}
use Rattle.promises.proofs.Accounting.{AccountingOf}

abbrev pub is_ready : Stream → Bool
is_ready s = ready (meaning s)

abbrev one_if : Bool → ℕ
one_if true = 1
one_if false = 0

-- the bytes of unfinished writes, and one for each that is empty
abbrev unwritten : List (List ℕ) → ℕ
unwritten [] = 0
unwritten (u ∷ us) = max 1 (length u) + unwritten us

abbrev load : Stream → ℕ
load s = (unwritten s.unfinished - s.progress) + one_if s.pending

abbrev pub weight : Stream → ℕ
weight s = cond (is_ready s) 1 (load s)

unwritten_le : (us : List (List ℕ)) → unwritten us ≤ total us + length us
unwritten_le [] = omega arith
unwritten_le (u ∷ us) = let k = unwritten_le us in omega arith

one_if_le : (b : Bool) → one_if b ≤ 1
one_if_le true = omega arith
one_if_le false = omega arith

-- ready or not, with the weight it gives
data Readiness (s : Stream) : Type 0 where
  now_ready : is_ready s ≡ true → weight s ≡ 1 → Readiness s
  not_ready : is_ready s ≡ false → weight s ≡ load s → Readiness s

readiness : (s : Stream) → Readiness s
readiness s = go (is_ready s) refl
  where
    go : (b : Bool) → is_ready s ≡ b → Readiness s
    go true e = now_ready e (ap (λ (b : Bool). cond b 1 (load s)) e)
    go false e = not_ready e (ap (λ (b : Bool). cond b 1 (load s)) e)

-- what makes a stream ready
ready_alive : (s : Stream) → s.status ≡ Alive → s.pending ≡ false → length s.unfinished < 256 → 0 < s.free → is_ready s ≡ true
ready_alive s ha hp hl hf = grind arith

ready_ended : (s : Stream) → ¬ (s.status ≡ Alive) → is_ready s ≡ true
ready_ended s n = grind arith

-- a ready stream is not alive, or permits
data WhyReady (s : Stream) : Type 0 where
  ended : ¬ (s.status ≡ Alive) → WhyReady s
  allows : (n : ℕ) → Permits s n → WhyReady s

why_ready : (s : Stream) → is_ready s ≡ true → WhyReady s
why_ready s r = go (meaning s) refl r
  where
    go : (m : Meaning) → meaning s ≡ m → ready m ≡ true → WhyReady s
    go (open_with zero) e q = impossible (cc)
    go (open_with (suc n)) e q = allows n (permits_of s n e)
    go (faulted f) e q = ended (λ w. grind arith)
    go closed e q = ended (λ w. grind arith)

why_not_ready : (s : Stream) → is_ready s ≡ false → (s.status ≡ Alive) × ((s.pending ≡ true) ⊎ ((256 ≤ length s.unfinished) ⊎ (s.free ≡ 0)))
why_not_ready s r = grind arith

module _ (B : ℕ) (before : List ℕ) (es : History) (s : Stream) (k : AccountingOf B before es s) (some_budget : 0 < B) where
  pub weight_le : weight s ≤ B + 257
  weight_le = go (readiness s)
    where
      go : Readiness s → weight s ≤ B + 257
      go (now_ready r e) = omega arith
      go (not_ready r e) = let a = unwritten_le s.unfinished in let b = one_if_le s.pending in let c = k.budget in let d = k.few in omega arith

  some_unwritten : (us : List (List ℕ)) (p : ℕ) → p < max 1 (length (oldest us)) → 0 < length us → 0 < unwritten us - p
  some_unwritten [] p h n = absurd (omega arith)
  some_unwritten (u ∷ us) p h n = omega arith

  some_unfinished : (us : List (List ℕ)) → 0 < total us → 0 < length us
  some_unfinished [] h = absurd (omega arith)
  some_unfinished (u ∷ us) h = omega arith

  load_positive : is_ready s ≡ false → 0 < load s
  load_positive r = go (why_not_ready s r).1
    where
      go : (s.pending ≡ true) ⊎ ((256 ≤ length s.unfinished) ⊎ (s.free ≡ 0)) → 0 < load s
      go (inl p) = rw p (omega arith)
      go (inr (inl l)) = let z = some_unwritten s.unfinished s.progress k.partly (omega arith) in omega arith
      go (inr (inr f)) =
          let c = k.budget in
          let z = some_unwritten s.unfinished s.progress k.partly (some_unfinished s.unfinished (omega arith)) in
          omega arith

  pub weight_positive : 0 < weight s
  weight_positive = go (readiness s)
    where
      go : Readiness s → 0 < weight s
      go (now_ready r e) = omega arith
      go (not_ready r e) = let z = load_positive r in omega arith

  -- a turn leaves a ready stream ready
  pub turn_keeps_ready : {word : Turn} {t : Stream} → TurnWay s word t → is_ready s ≡ true → is_ready t ≡ true
  turn_keeps_ready (stops h) r = r
  turn_keeps_ready {t = t} (finishing w us h e) r = go (why_ready s r)
    where
      go : WhyReady s → is_ready t ≡ true
      go (ended n) = absurd (n h)
      go (allows n p) =
          let l = ap length e in let a = p.room in let b = p.budget in
          ready_alive t h p.no_flush (omega arith) (omega arith)
  turn_keeps_ready (moving w us n h e lt) r = r
  turn_keeps_ready waiting r = r
  turn_keeps_ready (failing f h) r = refl
  turn_keeps_ready {t = t} (covering h₁ h₂ h₃) r = go (why_ready s r)
    where
      go : WhyReady s → is_ready t ≡ true
      go (ended n) = absurd (n h₁)
      go (allows n p) = absurd (both_ways s.pending p.no_flush h₃)
  turn_keeps_ready (idle h₁ h₂ h₃) r = r

  lighter : (t : Stream) → is_ready s ≡ false → load t < load s → (is_ready t ≡ true) ⊎ (weight t < weight s)
  lighter t r lt = go (readiness t) (readiness s)
    where
      go : Readiness t → Readiness s → (is_ready t ≡ true) ⊎ (weight t < weight s)
      go (now_ready a e) y = inl a
      go (not_ready a e) (now_ready b f) = absurd (both_ways (is_ready s) r b)
      go (not_ready a e) (not_ready b f) = inr (omega arith)

  not_ready_lighter : {word : Turn} {t : Stream} → TurnWay s word t → is_ready s ≡ false → s.cancelled ≡ false → ¬ (word ≡ NotYet) → (is_ready t ≡ true) ⊎ (weight t < weight s)
  not_ready_lighter (stops (inl h)) r c nw = absurd (both_ways s.cancelled c h)
  not_ready_lighter (stops (inr h)) r c nw = absurd (both_ways (is_ready s) r (ready_ended s h))
  not_ready_lighter {t = t} (finishing w us h e) r c nw =
      let a : unwritten s.unfinished ≡ max 1 (length w) + unwritten us = ap unwritten e in
      let b : s.progress < max 1 (length w) = subst (λ (x : List (List ℕ)). s.progress < max 1 (length (oldest x))) e k.partly in
      lighter t r (omega arith)
  not_ready_lighter {t = t} (moving w us n h e lt) r c nw =
      let a : unwritten s.unfinished ≡ max 1 (length w) + unwritten us = ap unwritten e in
      lighter t r (omega arith)
  not_ready_lighter waiting r c nw = absurd (nw refl)
  not_ready_lighter (failing f h) r c nw = inl refl
  not_ready_lighter {t = t} (covering h₁ h₂ h₃) r c nw =
      let a : one_if s.pending ≡ 1 = ap one_if h₃ in
      let b : unwritten s.unfinished ≡ 0 = ap unwritten h₂ in
      lighter t r (omega arith)
  not_ready_lighter (idle h₁ h₂ h₃) r c nw =
      let a : total s.unfinished ≡ 0 = ap total h₂ in
      let b : length s.unfinished ≡ 0 = ap length h₂ in
      let d = k.budget in
      absurd (both_ways (is_ready s) r (ready_alive s h₁ h₃ (omega arith) (omega arith)))

  -- a turn not answered not yet leaves the stream ready or lighter
  pub turn_lightens : {word : Turn} {t : Stream} → TurnWay s word t → s.cancelled ≡ false → ¬ (word ≡ NotYet) → (is_ready t ≡ true) ⊎ (weight t < weight s)
  turn_lightens {word} {t} x c nw = go (readiness s)
    where
      go : Readiness s → (is_ready t ≡ true) ⊎ (weight t < weight s)
      go (now_ready r e) = inl (turn_keeps_ready x r)
      go (not_ready r e) = not_ready_lighter x r c nw

  no_heavier : (t : Stream) → (is_ready t ≡ true) ⊎ (weight t < weight s) → weight t ≤ weight s
  no_heavier t (inl r) = let a : weight t ≡ 1 = ap (λ (b : Bool). cond b 1 (load t)) r in let b = weight_positive in omega arith
  no_heavier t (inr l) = omega arith

  pub turn_no_heavier : {word : Turn} {t : Stream} → TurnWay s word t → s.cancelled ≡ false → weight t ≤ weight s
  turn_no_heavier (stops h) c = omega arith
  turn_no_heavier {t = t} (finishing w us h e) c = no_heavier t (turn_lightens (finishing w us h e) c (λ z. impossible (cc)))
  turn_no_heavier {t = t} (moving w us n h e lt) c = no_heavier t (turn_lightens (moving w us n h e lt) c (λ z. impossible (cc)))
  turn_no_heavier waiting c = omega arith
  turn_no_heavier {t = t} (failing f h) c = no_heavier t (inl refl)
  turn_no_heavier {t = t} (covering h₁ h₂ h₃) c = no_heavier t (turn_lightens (covering h₁ h₂ h₃) c (λ z. impossible (cc)))
  turn_no_heavier (idle h₁ h₂ h₃) c = omega arith
