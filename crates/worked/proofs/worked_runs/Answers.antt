use Rattle.std.proofs.Common.{[], ◌∷◌, Ok, Err, refl, lit≤}
use Rattle.stream.specs.declared.error.StreamError.TheVariants.{Trap}
use Rattle.stream.specs.declared.error.Trap.TheVariants.{TooManyWrites}
use Rattle.worked.specs.Shows.{write, check_write, memory, stream}
use Rattle.worked.proofs.Turning.{shown, empty_writes}
use Rattle.worked.proofs.Sharing.{happened}
use Rattle.worked.proofs.worked_runs.Goals as goal

pub returns : goal.returns
returns c =
    record {
      whole_budget = shown _ _ (refl, tt);
      past_budget = shown _ _ (refl, tt);
      nothing_free = shown _ _ (refl, (refl, (refl, tt)));
      flush_holds_writes = shown _ _ (refl, (refl, (refl, (refl, (refl, (refl, (refl, (refl, tt))))))));
      budget_returns_whole = shown _ _ (refl, (refl, (refl, (refl, (refl, tt)))));
      fault_told_once = shown _ _ (refl, (refl, (refl, (refl, (refl, (refl, tt))))));
      nothing_taken = shown _ _ (refl, (refl, (refl, (refl, tt))));
      no_budget = shown _ _ (refl, (refl, (refl, tt)));
      cancel_stops_turns = shown _ _ (refl, (refl, tt));
      many_empty_writes = empty_writes 256 (stream 4 (memory 8 [])) (check_write (Ok 0) ∷ write [] (Err (Trap TooManyWrites)) ∷ []) refl refl (lit≤ tt) (shown _ _ (refl, (refl, tt)));
      full_pipe = record { too_long = refl; whole = refl; no_permit = refl; no_flush = refl; no_write = refl };
      handles_share = happened _ _ (refl, (refl, (refl, (refl, (refl, tt)))));
      limits_refused = record { budget = refl; no_handle = refl; many_handles = refl; largest = refl };
    }
