use Rattle.std.proofs.Common.{length, sym, ◌∙◌, ltb-true}
use Rattle.shared.specs.PartsOf.{parts_view}
use Rattle.shared.proofs.Polling.{write_granted}
use Rattle.shared.proofs.locked_async.parts.Parts.poll_write.Goals as goal

pub returns-in-Granted : goal.returns-in-Granted
returns-in-Granted g c =
    let O = g.S.OutputStream in
    let entered = rw c.in-Granted.is at c.in_ok-grant.ensures in
    write_granted O.meaning O.checked c.args.number (parts_view O.view c.args.self.now) (parts_view O.view c.acquire.new.self) O.wrote c.args.bytes.now c.requested.result _ _
    (ltb-true 0 (length c.args.bytes.now) (sym c.requested.ensures ∙ entered.0.wanted)) entered.0 (rw entered.1 at c.write_granted.ensures)
