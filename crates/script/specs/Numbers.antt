-- How a number is read. Assumes nothing.
--   number    the number that 1 to 9 decimal digits write; leading zeros are allowed
--   at_most   the number, where it is not above a limit
use Rattle.std.specs.Prelude.{ℕ, cond, ◌&&◌, List, length, Some, None, Option, nat_le}
use Rattle.std.specs.Str.Parse.{digits_value}
use Rattle.std.specs.Str.{all_ascii_digits}

abbrev pub number : List ℕ → Option ℕ
number text = cond (nat_le 1 (length text) && nat_le (length text) 9 && all_ascii_digits text) (Some (digits_value 10 text)) None

abbrev pub at_most : ℕ → Option ℕ → Option ℕ
at_most limit None = None
at_most limit (Some n) = cond (nat_le n limit) (Some n) None
