-- Lists of bytes cut into parts whose lengths add up to theirs. Assumes nothing.
use Rattle.std.proofs.Common.{◌≡◌, ℕ, suc, ◌-◌, ◌<◌, ◌≤◌, Bool, List, [], ◌∷◌, ◌++◌, length, get_or, take, drop, slice_get, Some, refl, ap, ◌∙◌, arith, length-drop, Bor}
use Rattle.std.proofs.lemmas.List.{take_all, drop_all, take-append-le, drop-append-le, length-take-le}
use Rattle.std.proofs.lemmas.List.Sums.{sum_by-cons}
use Rattle.std.proofs.lemmas.Slice.{between_is}
use Rattle.std.specs.List.{sum, sum_by}
use Rattle.worker_stream.specs.declared.write_stream.job.Job.TheVariants.{Write}
use Rattle.worker_stream.specs.StoreView.{cuts, oldest, IsStored}
use Rattle.worker_stream.specs.Work.{work_left, Next}

first_le : (n : ℕ) (ns bytes : List ℕ) → sum (n ∷ ns) ≡ length bytes → n ≤ length bytes
first_le n ns bytes whole = omega (arith, sum_by-cons (λ k. k) n ns)

others_whole : (n : ℕ) (ns bytes : List ℕ) → sum (n ∷ ns) ≡ length bytes → sum ns ≡ length (drop n bytes)
others_whole n ns bytes whole = omega (arith, sum_by-cons (λ k. k) n ns, length-drop n bytes)

pub length_cuts : (ns bytes : List ℕ) → length (cuts ns bytes) ≡ length ns
length_cuts [] bytes = refl
length_cuts (n ∷ ns) bytes = ap (λ k. suc k) (length_cuts ns (drop n bytes))

pub used_cuts : (ns bytes : List ℕ) → sum ns ≡ length bytes → sum_by length (cuts ns bytes) ≡ length bytes
used_cuts [] bytes whole = omega arith
used_cuts (n ∷ ns) bytes whole =
    let fits : n ≤ length bytes = first_le n ns bytes whole in
    let others : sum_by length (cuts ns (drop n bytes)) ≡ length (drop n bytes) = used_cuts ns (drop n bytes) (others_whole n ns bytes whole) in
    omega (arith, sum_by-cons length (take n bytes) (cuts ns (drop n bytes)), length-take-le n bytes fits, length-drop n bytes)

-- one part more, behind the others
pub cuts_push : (ns bytes part : List ℕ) → sum ns ≡ length bytes → cuts (ns ++ length part ∷ []) (bytes ++ part) ≡ cuts ns bytes ++ part ∷ []
cuts_push [] [] part whole = ap (λ p. p ∷ []) (take_all (length part) part (omega arith))
cuts_push [] (b ∷ bytes) part whole = absurd (omega arith)
cuts_push (n ∷ ns) bytes part whole =
    let fits : n ≤ length bytes = first_le n ns bytes whole in
    rw (take-append-le n bytes part fits, drop-append-le n bytes part fits, cuts_push ns (drop n bytes) part (others_whole n ns bytes whole))

-- the first part, and what is left without it
pub first_cut : (ns bytes : List ℕ) → sum ns ≡ length bytes → 0 < length ns → length (oldest (cuts ns bytes)) ≡ get_or ns 0 0
first_cut [] bytes whole some = absurd (omega arith)
first_cut (n ∷ ns) bytes whole some = length-take-le n bytes (first_le n ns bytes whole)

pub without_first : (ns bytes : List ℕ) → sum ns ≡ length bytes → length bytes ≤ 4096 → 0 < length ns → IsStored (drop 1 ns) (drop (get_or ns 0 0) bytes) 0
without_first [] bytes whole within some = absurd (omega arith)
without_first (n ∷ ns) bytes whole within some =
    record { whole = others_whole n ns bytes whole; along = omega arith; within = omega (arith, length-drop n bytes) }

pub ruleset cut_laws = (length_cuts, used_cuts, cuts_push)

next_part :
    (w : List ℕ) (ws : List (List ℕ)) (k : ℕ) (pending : Bool) (part : Bor (List ℕ)) → part.now ≡ drop k w → k ≤ length w - 1 → Next (work_left (w ∷ ws) k pending) (Some (Write part))
next_part [] ws k pending part e h = e ∙ drop_all k [] (omega arith)
next_part (b ∷ bs) ws k pending part e h = (e, simp length-drop (omega arith))

-- the bytes from k to the end of the first part are what the next turn has to offer
pub next_is_rest :
    (ns bytes : List ℕ) (n k : ℕ) (pending : Bool) (part : Bor (List ℕ)) → sum ns ≡ length bytes → k ≤ get_or ns 0 0 - 1 → slice_get ns 0 ≡ Some n → part.now ≡ take (n - k) (drop k bytes)
    → Next (work_left (cuts ns bytes) k pending) (Some (Write part))
next_is_rest [] bytes n k pending part whole along first is = absurd (cc)
next_is_rest (m ∷ ns) bytes n k pending part whole along first is =
    let same : m ≡ n = cc in
    next_part (take m bytes) _ k pending part (rw (same, is) (between_is bytes k n)) (omega (arith, length-take-le m bytes (first_le m ns bytes whole)))
