use Rattle.std.proofs.Common.{length}
use Rattle.shared.specs.PartsOf.{parts_view}
use Rattle.shared.specs.SharedOf.{shared_view}
use Rattle.shared.specs.TableOf.{handles_of}
use Rattle.shared.proofs.Queues.{carried, room, carries_on, write_keeps}
use Rattle.shared.proofs.locked_async.stdout.AsyncStdoutStream.poll_write.Goals as goal

pub poll_write-requires : goal.poll_write-requires
poll_write-requires g c = room g.S.OutputStream.view c.args.self.now c.args.handle

pub invariant_of-self : goal.invariant_of-self
invariant_of-self g c =
    let O = g.S.OutputStream in
    let a = c.args.self.now in
    let n = length (handles_of a.parts.table) in
    let kept = carries_on n (parts_view O.view c.poll_write.new.self) _ c.poll_write.ensures.left (write_keeps n c.args.handle O.meaning O.checked O.wrote c.args.bytes.now (shared_view O.view a) (carried O.view a)) in
    record { each = kept.each; whole = kept.whole }
