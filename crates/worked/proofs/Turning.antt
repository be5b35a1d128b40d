-- The one turn that a planned memory writer allows. Assumes nothing.
use Rattle.std.proofs.Common.{◌≡◌, ℕ, zero, suc, ◌+◌, ◌≤◌, true, false, ltb, leb, List, [], ◌∷◌, ◌++◌, length, take, replicate, Ok, refl, subst, arith, length-append, lt-ltb, le-leb}
use Rattle.planned_writer.specs.declared.plan.PlanEntry.{PlanEntry}
use Rattle.planned_writer.specs.declared.plan.PlanEntry.TheVariants.{AtMost, NotYet, Fail}
use Rattle.writer.specs.declared.answer.Fault.TheVariants.{Device}
use Rattle.writer.specs.declared.answer.WriteAnswer.{WriteAnswer}
use Rattle.writer.specs.declared.answer.WriteAnswer.TheVariants.{Took, NotYet as WriteNotYet, Failed as WriteFailed}
use Rattle.writer.specs.declared.answer.FlushAnswer.{FlushAnswer}
use Rattle.writer.specs.declared.answer.FlushAnswer.TheVariants.{Done, NotYet as FlushNotYet, Failed as FlushFailed}
use Rattle.memory_writers.specs.Area.{Area, fitting, extended, all_covered}
use Rattle.memory_writers.specs.Stores.{MemoryWrites, AreaFlushes}
use Rattle.planned_writer.specs.Planned.{PlannedView, PlannedWrites, PlannedFlushes}
use Rattle.worker_stream.specs.declared.write_stream.job.Turn.TheVariants.{Stopped, Idle}
use Rattle.worker_stream.specs.Work.{Work, stop, finish_empty, offer, flush_writer, nothing}
use Rattle.worker_stream.specs.declared.write_stream.worker.Status.TheVariants.{Alive}
use Rattle.worker_stream.specs.WorkerView.{with_writer}
use Rattle.worker_stream.specs.WorkerCalls.{meaning, checked, accepts, accept, wrote, flushed, cancel as cancelled}
use Rattle.stream.specs.Meaning.{permit, ready as is_ready, flush_answer}
use Rattle.worker_stream.specs.WorkerTurn.{Outcome, outcome, finishes, after_write, after_flush, work, Does, Turned}
use Rattle.worked.specs.Shows.{Did, write, check_write, flush, cancel, turn, free, ready, Stream, Shows, writes, flushes}

record Answered (R : Type 0) : Type 0 where
  answer : R
  writer : PlannedView Area

abbrev spent : List PlanEntry → Area → PlannedView Area → PlannedView Area
spent rest below a = record { plan = rest; planned = a.planned; below = below }

abbrev below_write : List PlanEntry → List ℕ → PlannedView Area → Answered WriteAnswer
below_write rest part a = record { answer = Took (fitting a.below part); writer = spent rest (extended (fitting a.below part) part a.below) a }

abbrev write_of : List PlanEntry → PlannedView Area → List ℕ → Answered WriteAnswer
write_of [] a part = below_write [] part a
write_of (AtMost k ∷ rest) a part = below_write rest (take k part) a
write_of (NotYet ∷ rest) a part = record { answer = WriteNotYet; writer = spent rest a.below a }
write_of (Fail code ∷ rest) a part = record { answer = WriteFailed (Device code); writer = spent rest a.below a }

abbrev below_flush : List PlanEntry → PlannedView Area → Answered FlushAnswer
below_flush rest a = record { answer = Done; writer = spent rest (all_covered a.below) a }

abbrev flush_of : List PlanEntry → PlannedView Area → Answered FlushAnswer
flush_of [] a = below_flush [] a
flush_of (AtMost k ∷ rest) a = below_flush rest a
flush_of (NotYet ∷ rest) a = record { answer = FlushNotYet; writer = spent rest a.below a }
flush_of (Fail code ∷ rest) a = record { answer = FlushFailed (Device code); writer = spent rest a.below a }

write_told : (entries : List PlanEntry) (a : PlannedView Area) (part : List ℕ) → PlannedWrites MemoryWrites entries a part (write_of entries a part).answer (write_of entries a part).writer
write_told [] a part = record { told = record { told = refl; left = refl }; left = refl }
write_told (AtMost k ∷ rest) a part = record { told = record { told = refl; left = refl }; left = refl }
write_told (NotYet ∷ rest) a part = record { told = refl; left = refl }
write_told (Fail code ∷ rest) a part = record { told = refl; left = refl }

flush_told : (entries : List PlanEntry) (a : PlannedView Area) → PlannedFlushes AreaFlushes entries a (flush_of entries a).answer (flush_of entries a).writer
flush_told [] a = record { told = record { told = refl; left = refl }; left = refl }
flush_told (AtMost k ∷ rest) a = record { told = record { told = refl; left = refl }; left = refl }
flush_told (NotYet ∷ rest) a = record { told = refl; left = refl }
flush_told (Fail code ∷ rest) a = record { told = refl; left = refl }

abbrev pub does : Work → Stream → Outcome (PlannedView Area)
does stop s = outcome Stopped s
does finish_empty s = finishes s
does (offer part) s = let w = write_of s.writer.plan s.writer part in after_write w.answer (length part) (with_writer w.writer s)
does flush_writer s = let w = flush_of s.writer.plan s.writer in after_flush w.answer (with_writer w.writer s)
does nothing s = outcome Idle s

pub does_so : (w : Work) (s : Stream) → Does writes flushes w s (does w s).word (does w s).view
does_so stop s = record { word = refl; view = refl }
does_so finish_empty s = record { word = refl; view = refl }
does_so (offer part) s =
    let w = write_of s.writer.plan s.writer part in
    record { answer = w.answer; writer = w.writer; tells = write_told s.writer.plan s.writer part; gives = record { word = refl; view = refl } }
does_so flush_writer s =
    let w = flush_of s.writer.plan s.writer in
    record { answer = w.answer; writer = w.writer; tells = flush_told s.writer.plan s.writer; gives = record { word = refl; view = refl } }
does_so nothing s = record { word = refl; view = refl }

-- what is left to see of a run, once each turn is the one that the writer allows
abbrev pub Checks : Stream → List Did → Type 0
Checks s [] = Unit {0}
Checks s (write bytes r ∷ more) = (accepts s bytes ≡ r) × Checks (wrote s bytes) more
Checks s (check_write r ∷ more) = (permit (meaning s) ≡ r) × Checks (checked s) more
Checks s (flush r ∷ more) = (flush_answer (meaning s) ≡ r) × Checks (flushed s) more
Checks s (cancel ∷ more) = Checks (cancelled s) more
Checks s (turn r ∷ more) = ((does (work s) s).word ≡ r) × Checks (does (work s) s).view more
Checks s (free n ∷ more) = (s.free ≡ n) × Checks s more
Checks s (ready b ∷ more) = (is_ready (meaning s) ≡ b) × Checks s more

pub shown : (s : Stream) (ds : List Did) → Checks s ds → Shows s ds
unfolding Shows
shown s [] h = tt
shown s (write bytes r ∷ more) (e, h) = (e, shown (wrote s bytes) more h)
shown s (check_write r ∷ more) (e, h) = (e, shown (checked s) more h)
shown s (flush r ∷ more) (e, h) = (e, shown (flushed s) more h)
shown s (cancel ∷ more) h = shown (cancelled s) more h
shown s (turn r ∷ more) (e, h) = ((does (work s) s).view, subst (λ w. Turned writes flushes s w (does (work s) s).view) e (does_so (work s) s), shown (does (work s) s).view more h)
shown s (free n ∷ more) (e, h) = (e, shown s more h)
shown s (ready b ∷ more) (e, h) = (e, shown s more h)

abbrev pub after_empty : ℕ → Stream → Stream
after_empty zero s = s
after_empty (suc n) s = after_empty n (accept [] s)

-- empty writes are accepted while fewer than 256 are unfinished
pub empty_writes :
    (n : ℕ) (s : Stream) (more : List Did) → s.status ≡ Alive → s.pending ≡ false → length s.unfinished + n ≤ 256 → Shows (after_empty n s) more → Shows s (replicate n (write [] (Ok tt)) ++ more)
unfolding Shows
empty_writes zero s more lives open_now few h = h
empty_writes (suc n) s more lives open_now few h =
    let room : ltb (length s.unfinished) 256 ≡ true = lt-ltb (length s.unfinished) 256 (omega arith) in
    let fits : leb 0 s.free ≡ true = le-leb 0 s.free (omega arith) in
    let left : wrote s [] ≡ accept [] s = rw (lives, open_now, fits, room) in
    (rw (lives, open_now, fits, room), rw left (empty_writes n (accept [] s) more lives open_now (simp length-append (omega arith)) h))
