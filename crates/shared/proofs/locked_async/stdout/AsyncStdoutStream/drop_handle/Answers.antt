use Rattle.std.proofs.Common.{length}
use Rattle.shared.specs.PartsOf.{parts_view}
use Rattle.shared.specs.SharedOf.{shared_view}
use Rattle.shared.specs.TableOf.{handles_of}
use Rattle.shared.proofs.Queues.{carried, carries_on, drop_keeps}
use Rattle.shared.proofs.locked_async.stdout.AsyncStdoutStream.drop_handle.Goals as goal

pub invariant_of-self : goal.invariant_of-self
invariant_of-self g c =
    let O = g.S.OutputStream in
    let a = c.args.self.now in
    let n = length (handles_of a.parts.table) in
    let kept = carries_on n (parts_view O.view c.drop_handle.new.self) _ c.drop_handle.ensures.left (drop_keeps n c.args.handle (shared_view O.view a) (carried O.view a)) in
    record { each = kept.each; whole = kept.whole }
