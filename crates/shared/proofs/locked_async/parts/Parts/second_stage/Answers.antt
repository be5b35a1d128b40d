use Rattle.shared.specs.PartsOf.{parts_view}
use Rattle.shared.proofs.Polling.{second_granted}
use Rattle.shared.proofs.locked_async.parts.Parts.second_stage.Goals as goal

pub returns-in-Ok-Granted : goal.returns-in-Ok-Granted
returns-in-Ok-Granted g c =
    let O = g.S.OutputStream in
    let entered = rw c.in-Ok-Granted.field-0-is at c.in-Ok-Granted.ensures in
    second_granted O.meaning O.checked c.args.number (parts_view O.view c.args.self.now) (parts_view O.view c.acquire.new.self) O.flushed _ _ entered.0 (rw entered.1 at c.end_granted.ensures)
