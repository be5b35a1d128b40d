-- What the two writers over a buffer answer, and the area that they leave. Assumes nothing.
--   no_space       the device code of an image that has no room left
--   image_answer   the answer of an image writer, by how many bytes were offered and how many fit
--   MemoryWrites   a memory writer takes what fits, and none when it is full
--   ImageWrites    an image writer takes what fits, and fails when bytes are offered and none fits
--   AreaFlushes    a flush of either succeeds, and covers all bytes taken
use Rattle.std.specs.Prelude.{◌≡◌, ℕ, cond, List, length, ◌==◌, nat_lt}
use Rattle.writer.specs.declared.answer.Fault.TheVariants.{Device}
use Rattle.writer.specs.declared.answer.WriteAnswer.{WriteAnswer}
use Rattle.writer.specs.declared.answer.WriteAnswer.TheVariants.{Took, Failed}
use Rattle.writer.specs.declared.answer.FlushAnswer.{FlushAnswer}
use Rattle.writer.specs.declared.answer.FlushAnswer.TheVariants.{Done}
use Rattle.memory_writers.specs.Area.{Area, fitting, extended, all_covered}

abbrev pub no_space : ℕ
no_space = 28

abbrev pub image_answer : ℕ → ℕ → WriteAnswer
image_answer offered count = cond (nat_lt 0 offered) (cond (count == 0) (Failed (Device no_space)) (Took count)) (Took 0)

pub record MemoryWrites (a : Area) (part : List ℕ) (r : WriteAnswer) (b : Area) : Type 0 where
  pub told : r ≡ Took (fitting a part)
  pub left : b ≡ extended (fitting a part) part a

pub record ImageWrites (a : Area) (part : List ℕ) (r : WriteAnswer) (b : Area) : Type 0 where
  pub told : r ≡ image_answer (length part) (fitting a part)
  pub left : b ≡ extended (fitting a part) part a

pub record AreaFlushes (a : Area) (r : FlushAnswer) (b : Area) : Type 0 where
  pub told : r ≡ Done
  pub left : b ≡ all_covered a
