-- What a put leaves of the area of a buffer. Assumes nothing.
use Rattle.std.proofs.Common.{◌≡◌, ℕ, ◌+◌, ◌≤◌, List, ◌++◌, length, take, drop, ap, ◌∙◌, arith}
use Rattle.std.specs.Prelude.{slice_range, Vec}
use Rattle.std.specs.Vec.{with_items}
use Rattle.std.proofs.lemmas.List.{drop-append-le, with_items_is}
use Rattle.std.proofs.lemmas.Slice.{between_is, overwrites}
use Rattle.memory_writers.specs.Area.{divided, extended}

-- the n bytes q are put into a vector at e, behind the bytes from s on; k is how a range counts them
module _ {Z : Type 0} (v : Vec ℕ Z) (s e n c k : ℕ) (q part : List ℕ) (ordered : s ≤ e) (within : e + n ≤ v.len) (few : n ≤ length part) (size : k ≡ n) (is : q ≡ take n part) where
  abbrev left : List ℕ
  left = take e v.items ++ (q ++ drop k (drop e v.items))

  before_is : take s left ≡ take s v.items
  before_is = grind (arith, overwrites, v.ok)

  taken_is : slice_range left s (e + n) ≡ slice_range v.items s e ++ take n part
  taken_is = grind (arith, overwrites, between_is, drop-append-le, v.ok)

  room_is : drop (e + n) left ≡ drop n (drop e v.items)
  room_is = grind (arith, overwrites, v.ok)

  long : length left ≡ v.len
  long = grind (arith, overwrites, v.ok)

  pub put_extends : divided s (e + n) c (with_items v left).items ≡ extended n part (divided s e c v.items)
  put_extends = ap (divided s (e + n) c) (with_items_is v left long) ∙ cc (before_is, taken_is, room_is)
