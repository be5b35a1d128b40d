-- A buffer that takes bytes from a start on, by the parts that it falls into. Assumes nothing.
--   Area          the bytes before the start, the bytes taken, the bytes past these, and how many were covered
--   divided       the area of these bytes, of which those from start to at were taken
--   fresh_area    nothing was taken yet; a start past the end means the end
--   fitting       how many bytes of a part fit
--   extended      the first n bytes of a part were taken
--   all_covered   all bytes taken are covered
use Rattle.std.specs.Prelude.{ℕ, min, List, [], ◌++◌, length, take, drop, slice_range}

pub record Area : Type 0 where
  pub before : List ℕ
  pub taken : List ℕ
  pub room : List ℕ
  pub covered : ℕ

abbrev pub divided : ℕ → ℕ → ℕ → List ℕ → Area
divided start at covered bytes = record { before = take start bytes; taken = slice_range bytes start at; room = drop at bytes; covered = covered }

abbrev pub fresh_area : ℕ → List ℕ → Area
fresh_area start bytes = record { before = take start bytes; taken = []; room = drop start bytes; covered = 0 }

abbrev pub fitting : Area → List ℕ → ℕ
fitting a part = min (length part) (length a.room)

abbrev pub extended : ℕ → List ℕ → Area → Area
extended n part a = record { before = a.before; taken = a.taken ++ take n part; room = drop n a.room; covered = a.covered }

abbrev pub all_covered : Area → Area
all_covered a = record { before = a.before; taken = a.taken; room = a.room; covered = length a.taken }
