use Rattle.shared.proofs.Queues.{carries_fresh}
use Rattle.shared.proofs.locked_async.stdout.AsyncStdoutStream.over.Goals as goal

pub invariant_of-result : goal.invariant_of-result
invariant_of-result g c =
    let kept = carries_fresh _ _ c.args.limits.handles c.new.ensures c.new-2.ensures in
    record { each = kept.0; whole = kept.1 }
