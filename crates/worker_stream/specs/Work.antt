-- What a host turn has to do. Assumes nothing.
--   Work        stop; finish an empty write; offer the writer a part; have it flush; or nothing
--   work_left   what the unfinished writes ask for, oldest first, and a pending flush after the last of them
--   Writes      the job is a write, of a part of which this holds
--   Next        the job that stands for such work
use Rattle.std.specs.Prelude.{◌≡◌, ℕ, ◌<◌, Bool, true, false, List, [], ◌∷◌, length, drop, Some, None, Option}
use Rattle.worker_stream.specs.declared.write_stream.job.Job.{Job}
use Rattle.worker_stream.specs.declared.write_stream.job.Job.TheVariants.{Flush, Write}

pub data Work : Type 0 where
  stop : Work
  finish_empty : Work
  offer : List ℕ → Work
  flush_writer : Work
  nothing : Work

-- an empty write is finished without a call; of any other the whole unwritten rest is offered
abbrev pub work_left : List (List ℕ) → ℕ → Bool → Work
work_left ([] ∷ ws) progress pending = finish_empty
work_left ((b ∷ bs) ∷ ws) progress pending = offer (drop progress (b ∷ bs))
work_left [] progress true = flush_writer
work_left [] progress false = nothing

abbrev pub Writes : (List ℕ → Type 0) → Option Job → Type 0
Writes P None = ⊥
Writes P (Some Flush) = ⊥
Writes P (Some (Write part)) = P part.now

abbrev pub Next : Work → Option Job → Type 0
Next stop j = ⊥
Next nothing j = j ≡ None
Next flush_writer j = j ≡ Some Flush
Next finish_empty j = Writes (λ part. part ≡ []) j
Next (offer bytes) j = Writes (λ part. (part ≡ bytes) × (0 < length bytes)) j
