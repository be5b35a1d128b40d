-- What a memory pipe is, and what its calls answer and leave. Assumes nothing.
--   PipeView        the bytes held and the bytes of the buffer past them: the capacity is the sum of their lengths
--   pipe_view       the view of a pipe
--   fresh           a pipe just made of these bytes: none is held
--   has_room        the question before every call: are fewer bytes held than the capacity?
--   refusal         the refusal of check_write and flush, if there is one
--   write_refusal   the refusal of a write, if there is one
--   meaning         closed when no room is left, else open with all of it
--   accept          an accepted write: its bytes are held behind the others, and the rest of the buffer stays
--   left_by         what a call leaves: a refusal changes nothing
--   checked, accepts, wrote, flushed   each call in those words
use Rattle.std.specs.Prelude.{ℕ, cond, List, [], ◌∷◌, ◌++◌, length, take, drop, Some, None, vec_items, Option, Result, nat_le, nat_lt}
use Rattle.stream.specs.declared.error.StreamError.{StreamError}
use Rattle.stream.specs.declared.error.StreamError.TheVariants.{Closed, Trap}
use Rattle.stream.specs.declared.error.Trap.TheVariants.{NoRoom}
use Rattle.memory_pipe.specs.declared.pipe.MemoryOutputPipe.{MemoryOutputPipe}
use Rattle.stream.specs.Meaning.{Meaning, closed, open_with}
use Rattle.stream.specs.Questions.{asks, first_no, answered}

pub record PipeView : Type 0 where
  pub held : List ℕ
  pub room : List ℕ

abbrev pub pipe_view : MemoryOutputPipe → PipeView
pipe_view p = record { held = take p.held (vec_items p.buffer); room = drop p.held (vec_items p.buffer) }

abbrev pub fresh : List ℕ → PipeView
fresh bytes = record { held = []; room = bytes }

abbrev pub has_room : PipeView → Option StreamError
has_room s = asks (nat_lt 0 (length s.room)) Closed

abbrev pub refusal : PipeView → Option StreamError
refusal s = first_no (has_room s ∷ [])

abbrev pub write_refusal : PipeView → List ℕ → Option StreamError
write_refusal s bytes = first_no (has_room s ∷ asks (nat_le (length bytes) (length s.room)) (Trap NoRoom) ∷ [])

abbrev pub meaning : PipeView → Meaning
meaning s = cond (nat_lt 0 (length s.room)) (open_with (length s.room)) closed

abbrev pub accept : List ℕ → PipeView → PipeView
accept bytes s = record { held = s.held ++ bytes; room = drop (length bytes) s.room }

abbrev pub left_by : Option StreamError → PipeView → PipeView → PipeView
left_by None s accepted = accepted
left_by (Some e) s accepted = s

abbrev pub checked : PipeView → PipeView
checked s = s

abbrev pub accepts : PipeView → List ℕ → Result (Unit {0}) StreamError
accepts s bytes = answered (write_refusal s bytes) tt

abbrev pub wrote : PipeView → List ℕ → PipeView
wrote s bytes = left_by (write_refusal s bytes) s (accept bytes s)

abbrev pub flushed : PipeView → PipeView
flushed s = s
