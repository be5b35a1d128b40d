-- Conservation: budget, lengths and bytes of the stream against its history.
-- Assumes nothing.
use Rattle.std.proofs.Common.{◌≡◌, ℕ, zero, suc, ◌+◌, ◌-◌, ◌<◌, ◌≤◌, min, max, List, [], ◌∷◌, ◌++◌, map, length, take, drop, Ok, Err, sym, refl, ap, ◌∙◌, subst, append_assoc, append-nil, arith, length-append, length-take, take_at, take-add, drop_at}
use Rattle.std.proofs.Math.Path.{subst⁻¹}
use mathlib.Core.List.{flatten}
use Rattle.std.proofs.Math.ListN.{length-map}
use Rattle.worker_stream.specs.StoreView.{oldest}
use Rattle.worker_stream.specs.declared.write_stream.job.Turn.{Turn}
use Rattle.handles.specs.Errors.{HandleError}
use Rattle.handles.specs.declared.handle.Poll.TheVariants.{Ready as Answer}
use Rattle.promises.specs.Events.{Event, write, check, flush, cancel, turn, handle_write, handle_flush, handle_drop}
use Rattle.promises.specs.History.{History, ◌▷◌, accepted_by, accepted, on_turn, finished_in, finished_lengths, moved_in, moved, finished_writes, unfinished_writes, Call, writes, flushes}
use Rattle.promises.specs.Promises.{total, Conserved}
use Rattle.promises.proofs.Streams.{WriterBytes, Stream, TurnWay, stops, finishing, moving, waiting, failing, covering, idle, permits_of}
use Rattle.promises.proofs.View.{Lock, Way, passes, tells_fault, writes_directly, flushes_directly, cancels, turns, no_handle, no_handle_to_drop, drops, already_closed, writes_nothing, lines_up, keeps_lock, meets_fault, meets_closed, writes_part, begins_flush, ends_flush, accepts_nothing, waits_event, ends_event, error_event, Path, fresh_path, one_more}

pub total_append : (us vs : List (List ℕ)) → total (us ++ vs) ≡ total us + total vs
total_append [] vs = omega arith
total_append (u ∷ us) vs = omega (arith, total_append us vs)

flatten_snoc : (us : List (List ℕ)) (w : List ℕ) → flatten (us ++ w ∷ []) ≡ flatten us ++ w
unfolding flatten
flatten_snoc [] w = append-nil w
flatten_snoc (u ∷ us) w = rw (flatten_snoc us w, append_assoc u (flatten us) w)

map_snoc : (us : List (List ℕ)) (w : List ℕ) → map length (us ++ w ∷ []) ≡ map length us ++ length w ∷ []
map_snoc [] w = refl
map_snoc (u ∷ us) w = ap (λ (x : List ℕ). length u ∷ x) (map_snoc us w)

take_length_take : (n : ℕ) (bs : List ℕ) → take (length (take n bs)) bs ≡ take n bs
take_length_take zero bs = refl
take_length_take (suc n) [] = refl
take_length_take (suc n) (b ∷ bs) = ap (λ (x : List ℕ). b ∷ x) (take_length_take n bs)

take_min : (n : ℕ) (bs : List ℕ) → take (min n (length bs)) bs ≡ take n bs
take_min n bs = ap (λ (k : ℕ). take k bs) (sym (length-take n bs)) ∙ take_length_take n bs

take_drop_all : (n : ℕ) (w : List ℕ) → take n w ++ drop n w ≡ w
take_drop_all n w = lib.ListN.take-append-drop n w

-- taken: what the writer has taken, of which `before` was there before the stream was made
pub record Accounting (B : ℕ) (before : List ℕ) (es : History) (free : ℕ) (us : List (List ℕ)) (progress : ℕ) (taken : List ℕ) : Type 0 where
  pub finished : List (List ℕ)
  pub splits : accepted es ≡ finished ++ us
  pub lengths : finished_lengths es ≡ map length finished
  pub budget : free + total us ≡ B
  pub movement : moved es ≡ progress
  pub partly : progress < max 1 (length (oldest us))
  pub bytes : taken ≡ before ++ flatten finished ++ take progress (oldest us)
  pub few : length us ≤ 256

abbrev pub AccountingOf : ℕ → List ℕ → History → Stream → Type 0
AccountingOf B before es s = Accounting B before es s.free s.unfinished s.progress s.writer.taken

-- an event that finishes and moves nothing
record NoTurn (e : Event) : Type 0 where
  none_finished : on_turn e finished_in [] ≡ []
  none_moved : (n : ℕ) → on_turn e (moved_in n) n ≡ n

module _ (B : ℕ) (before : List ℕ) (es : History) (e : Event) where
  nothing_accepted : {free : ℕ} {us : List (List ℕ)} {progress : ℕ} {taken : List ℕ} → accepted_by e ≡ [] → NoTurn e
      → Accounting B before es free us progress taken → Accounting B before (es ▷ e) free us progress taken
  nothing_accepted pa q k =
      record {
        finished = k.finished;
        splits = rw (pa, append-nil (accepted es)) k.splits;
        lengths = rw (q.none_finished, append-nil (finished_lengths es)) k.lengths;
        budget = k.budget;
        movement = q.none_moved (moved es) ∙ k.movement;
        partly = k.partly;
        bytes = k.bytes;
        few = k.few;
      }

  oldest_more : (us : List (List ℕ)) (bs : List ℕ) (progress : ℕ) → progress < max 1 (length (oldest us))
      → (take progress (oldest us) ≡ take progress (oldest (us ++ bs ∷ []))) × (progress < max 1 (length (oldest (us ++ bs ∷ []))))
  oldest_more [] bs zero h = (refl, omega arith)
  oldest_more [] bs (suc n) h = absurd (omega arith)
  oldest_more (u ∷ us) bs n h = (refl, h)

  one_accepted : {free : ℕ} {us : List (List ℕ)} {progress : ℕ} {taken : List ℕ} (bs : List ℕ) → accepted_by e ≡ bs ∷ [] → NoTurn e → length bs ≤ free → length us < 256
      → Accounting B before es free us progress taken → Accounting B before (es ▷ e) (free - length bs) (us ++ bs ∷ []) progress taken
  one_accepted {us = us} {progress} bs pa q fits room k =
      let o = oldest_more us bs progress k.partly in
      record {
        finished = k.finished;
        splits = rw (pa, k.splits, append_assoc k.finished us (bs ∷ []));
        lengths = rw (q.none_finished, append-nil (finished_lengths es)) k.lengths;
        budget = let t = total_append us (bs ∷ []) in let b = k.budget in omega arith;
        movement = q.none_moved (moved es) ∙ k.movement;
        partly = o.1;
        bytes = rw (← o.0) k.bytes;
        few = simp length-append (omega arith);
      }

  one_finished : {free : ℕ} {progress : ℕ} {taken : List ℕ} (w : List ℕ) (us us₀ : List (List ℕ)) → us₀ ≡ w ∷ us
      → accepted_by e ≡ [] → on_turn e finished_in [] ≡ length w ∷ [] → ((n : ℕ) → on_turn e (moved_in n) n ≡ 0)
      → Accounting B before es free us₀ progress taken → Accounting B before (es ▷ e) (free + length w) us 0 (taken ++ drop progress w)
  one_finished {free} {progress} {taken} w us us₀ eq pa pf pm k₀ =
      let k : Accounting B before es free (w ∷ us) progress taken = subst (λ (x : List (List ℕ)). Accounting B before es free x progress taken) eq k₀ in
      record {
        finished = k.finished ++ w ∷ [];
        splits = rw (pa, append-nil (accepted es), append_assoc k.finished (w ∷ []) us) k.splits;
        lengths = rw (pf, k.lengths) (sym (map_snoc k.finished w));
        budget = let b = k.budget in omega arith;
        movement = pm (moved es);
        partly = omega arith;
        bytes =
            rw (k.bytes, append_assoc (before ++ flatten k.finished) (take progress w) (drop progress w), take_drop_all progress w, flatten_snoc k.finished w, append-nil (before ++ (flatten k.finished ++ w)))
            (append_assoc before (flatten k.finished) w);
        few = let f = k.few in omega arith;
      }

  some_moved : {free : ℕ} {progress : ℕ} {taken : List ℕ} (w : List ℕ) (us us₀ : List (List ℕ)) (n : ℕ) → us₀ ≡ w ∷ us → progress + suc n < length w
      → accepted_by e ≡ [] → on_turn e finished_in [] ≡ [] → ((m : ℕ) → on_turn e (moved_in m) m ≡ m + suc n)
      → Accounting B before es free us₀ progress taken → Accounting B before (es ▷ e) free us₀ (progress + suc n) (taken ++ take (suc n) (drop progress w))
  some_moved {free} {progress} {taken} w us us₀ n eq lt pa pf pm k₀ =
      let k : Accounting B before es free (w ∷ us) progress taken = subst (λ (x : List (List ℕ)). Accounting B before es free x progress taken) eq k₀ in
      subst⁻¹ (λ (x : List (List ℕ)). Accounting B before (es ▷ e) free x (progress + suc n) (taken ++ take (suc n) (drop progress w))) eq
      record {
        finished = k.finished;
        splits = rw (pa, append-nil (accepted es)) k.splits;
        lengths = rw (pf, append-nil (finished_lengths es)) k.lengths;
        budget = k.budget;
        movement = pm (moved es) ∙ ap (λ (x : ℕ). x + suc n) k.movement;
        partly = omega arith;
        bytes = rw (k.bytes, append_assoc (before ++ flatten k.finished) (take progress w) (take (suc n) (drop progress w)), take-add progress (suc n) w);
        few = k.few;
      }

-- events that accept, finish and move nothing
no_turn : {e : Event} → on_turn e finished_in [] ≡ [] → ((n : ℕ) → on_turn e (moved_in n) n ≡ n) → NoTurn e
no_turn f m = record { none_finished = f; none_moved = m }

direct_nothing : (e : Event) → accepts_nothing e → (accepted_by e ≡ []) × NoTurn e
direct_nothing (write bytes (Ok u)) a = absurd a
direct_nothing (write bytes (Err x)) a = (refl, no_turn refl (λ n. refl))
direct_nothing (check r) a = (refl, no_turn refl (λ n. refl))
direct_nothing (flush (Ok u)) a = absurd a
direct_nothing (flush (Err x)) a = (refl, no_turn refl (λ n. refl))
direct_nothing cancel a = absurd a
direct_nothing (turn word) a = absurd a
direct_nothing (handle_write i bytes r) a = absurd a
direct_nothing (handle_flush i r) a = absurd a
direct_nothing (handle_drop i r) a = absurd a

waits_nothing : (i : ℕ) (a : Call) → (accepted_by (waits_event i a) ≡ []) × NoTurn (waits_event i a)
waits_nothing i (writes bytes) = (refl, no_turn refl (λ n. refl))
waits_nothing i flushes = (refl, no_turn refl (λ n. refl))

ends_nothing : (i : ℕ) (a : Call) → (accepted_by (ends_event i a) ≡ []) × NoTurn (ends_event i a)
ends_nothing i (writes bytes) = (refl, no_turn refl (λ n. refl))
ends_nothing i flushes = (refl, no_turn refl (λ n. refl))

error_nothing : (x : HandleError) (i : ℕ) (a : Call) → (accepted_by (error_event x i a) ≡ []) × NoTurn (error_event x i a)
error_nothing x i (writes bytes) = (refl, no_turn refl (λ n. refl))
error_nothing x i flushes = (refl, no_turn refl (λ n. refl))

part_accepted : (i m : ℕ) (bytes : List ℕ) → 0 < m → accepted_by (handle_write i bytes (Ok (Answer m))) ≡ take m bytes ∷ []
part_accepted i zero bytes h = absurd (omega arith)
part_accepted i (suc m) bytes h = refl

module _ (B : ℕ) (before : List ℕ) (es : History) where
  turn_accounting : (s : Stream) {word : Turn} {t : Stream} → TurnWay s word t → AccountingOf B before es s → AccountingOf B before (es ▷ turn word) t
  turn_accounting s {word} (stops h) k = nothing_accepted B before es (turn word) refl (no_turn refl (λ n. refl)) k
  turn_accounting s {word} (finishing w us h eq) k = one_finished B before es (turn word) w us s.unfinished eq refl refl (λ n. refl) k
  turn_accounting s {word} (moving w us n h eq lt) k = some_moved B before es (turn word) w us s.unfinished n eq lt refl refl (λ m. refl) k
  turn_accounting s {word} waiting k = nothing_accepted B before es (turn word) refl (no_turn refl (λ n. refl)) k
  turn_accounting s {word} (failing f h) k = nothing_accepted B before es (turn word) refl (no_turn refl (λ n. refl)) k
  turn_accounting s {word} (covering h₁ h₂ h₃) k = nothing_accepted B before es (turn word) refl (no_turn refl (λ n. refl)) k
  turn_accounting s {word} (idle h₁ h₂ h₃) k = nothing_accepted B before es (turn word) refl (no_turn refl (λ n. refl)) k

  by_nothing : {e : Event} {free : ℕ} {us : List (List ℕ)} {progress : ℕ} {taken : List ℕ} → (accepted_by e ≡ []) × NoTurn e → Accounting B before es free us progress taken → Accounting B before (es ▷ e) free us progress taken
  by_nothing {e} q k = nothing_accepted B before es e q.0 q.1 k

  pub way_accounting : {s : Stream} {l : Lock} {e : Event} {t : Stream} {m : Lock} → Way s l e t m → AccountingOf B before es s → AccountingOf B before (es ▷ e) t
  way_accounting (passes e a) k = by_nothing (direct_nothing e a) k
  way_accounting (tells_fault e f a h₁ h₂) k = by_nothing (direct_nothing e a) k
  way_accounting {e = e} (writes_directly bytes h₁ h₂ h₃ fits room) k = one_accepted B before es e bytes refl (no_turn refl (λ n. refl)) fits room k
  way_accounting (flushes_directly h₁ h₂) k = by_nothing (refl, no_turn refl (λ n. refl)) k
  way_accounting cancels k = by_nothing (refl, no_turn refl (λ n. refl)) k
  way_accounting {s} (turns t) k = turn_accounting s t k
  way_accounting (no_handle i a h) k = by_nothing (error_nothing _ i a) k
  way_accounting (no_handle_to_drop i h) k = by_nothing (refl, no_turn refl (λ n. refl)) k
  way_accounting (drops i h) k = by_nothing (refl, no_turn refl (λ n. refl)) k
  way_accounting (already_closed i a h) k = by_nothing (ends_nothing i a) k
  way_accounting (writes_nothing i h) k = by_nothing (refl, no_turn refl (λ n. refl)) k
  way_accounting (lines_up i a w o h) k = by_nothing (waits_nothing i a) k
  way_accounting (keeps_lock i a w o h v) k = by_nothing (waits_nothing i a) k
  way_accounting (meets_fault i a f mark w o h v) k = by_nothing (error_nothing _ i a) k
  way_accounting (meets_closed i a mark w o h v) k = by_nothing (ends_nothing i a) k
  way_accounting {s} {e = e} (writes_part i b bytes n o h v) k =
      let p = permits_of s n v in
      one_accepted B before es e (take (suc n) (b ∷ bytes))
      (part_accepted i (min (suc n) (length (b ∷ bytes))) (b ∷ bytes) (omega arith) ∙ ap (λ (x : List ℕ). x ∷ []) (take_min (suc n) (b ∷ bytes)))
      (no_turn refl (λ m. refl)) (let c = length-take (suc n) (b ∷ bytes) in let q = p.budget in omega arith) p.room k
  way_accounting (begins_flush i n st h₁ h₂ h₃ h₄ h₅) k = by_nothing (refl, no_turn refl (λ m. refl)) k
  way_accounting (ends_flush i n h₁ h₂ h₃ h₄) k = by_nothing (refl, no_turn refl (λ m. refl)) k

pub path_accounting : {B h : ℕ} {w : WriterBytes} {es : History} {s : Stream} {l : Lock} → Path B h w es s l → AccountingOf B w.taken es s
path_accounting {B} {w = w} fresh_path =
    record { finished = []; splits = refl; lengths = refl; budget = omega arith; movement = refl; partly = omega arith; bytes = unfold flatten in sym (append-nil (w.taken ++ []) ∙ append-nil w.taken); few = omega arith }
path_accounting {B} {w = w} (one_more {es = es} p x) = way_accounting B w.taken es x (path_accounting p)

module _ (B : ℕ) (before : List ℕ) (es : History) (s : Stream) (k : AccountingOf B before es s) where
  pub count_finished : length (finished_lengths es) ≡ length k.finished
  count_finished = ap length k.lengths ∙ length-map k.finished length

  finished_are : finished_writes es ≡ k.finished
  finished_are = rw k.splits (take_at k.finished s.unfinished (length (finished_lengths es)) (sym count_finished))

  unfinished_are : unfinished_writes es ≡ s.unfinished
  unfinished_are = rw k.splits (drop_at k.finished s.unfinished (length (finished_lengths es)) (sym count_finished))

  within : (w : List ℕ) → s.progress < max 1 (length w) → s.progress ≤ length w
  within w h = omega arith

  pub conserved : Conserved B before es s.free s.writer.taken
  conserved =
      record {
        balance = rw unfinished_are k.budget;
        lengths = rw finished_are k.lengths;
        partly = rw (unfinished_are, k.movement) (within (oldest s.unfinished) k.partly);
        bytes = rw (unfinished_are, finished_are, k.movement) k.bytes;
      }
