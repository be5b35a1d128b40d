use Rattle.std.proofs.Common.{sym, ap, ◌∙◌}
use Rattle.promises.specs.SharedView.{HandleView}
use Rattle.shared.specs.PartsOf.{parts_view}
use Rattle.shared.proofs.Polling.{first_granted, second_granted, flush_marked, flush_unmarked}
use Rattle.shared.proofs.locked_async.parts.Parts.poll_flush.Goals as goal

pub returns-in-Granted : goal.returns-in-Granted
returns-in-Granted g c =
    let O = g.S.OutputStream in
    let s = parts_view O.view c.args.self.now in
    let t = parts_view O.view c.acquire.new.self in
    let entered = rw c.in-Granted.is at c.in_ok-grant.ensures in
    flush_marked O.meaning O.checked c.args.number s t O.flushed _ _ entered.0.open_now (ap (λ (x : HandleView). x.mark) (sym c.get-mark.ensures) ∙ c.if-mark.true)
    (second_granted O.meaning O.checked c.args.number s t O.flushed _ _ entered.0 (rw entered.1 at c.end_granted.ensures))

pub returns-in-Granted-2 : goal.returns-in-Granted-2
returns-in-Granted-2 g c =
    let O = g.S.OutputStream in
    let s = parts_view O.view c.args.self.now in
    let t = parts_view O.view c.acquire.new.self in
    let entered = rw c.in-Granted.is at c.in_ok-grant.ensures in
    flush_unmarked O.meaning O.checked c.args.number s t O.flushed _ _ entered.0.open_now (ap (λ (x : HandleView). x.mark) (sym c.get-mark.ensures) ∙ c.if-mark.false)
    (first_granted O.meaning O.checked c.args.number s t O.flushed _ _ entered.0 (rw entered.1 at c.begin_granted.ensures))
