use Rattle.std.proofs.Common.{true}
use Rattle.shared.specs.PartsOf.{parts_view}
use Rattle.shared.proofs.Polling.{ready_again, room_again}
use Rattle.shared.proofs.locked_async.parts.Parts.begin_granted.Goals as goal

pub second_stage-requires : goal.second_stage-requires
second_stage-requires g c =
    let O = g.S.OutputStream in
    let p = c.args.self.now in
    let h = c.args.grant.handle in
    let s = parts_view O.view (record { stream = c.begin_flush-result.new.stream; lock = p.lock; table = p.table }) in
    let t = parts_view O.view c.give_back.new.self in
    let begun = c.in-Ok-Ready.is in
    let accepted = rw begun at c.in-Ok-Ready.field-0-is in
    let back = rw (begun, accepted) at c.give_back.ensures in
    rw c.handle-number.ensures (record {
      room = λ ready. room_again h s t true c.get-mark.result.mark c.requires.holder p.lock.within back;
      state = ready_again h s t true c.get-mark.result.mark c.requires.there back;
    })
