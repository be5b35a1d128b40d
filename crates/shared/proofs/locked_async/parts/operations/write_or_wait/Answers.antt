use Rattle.std.proofs.Common.{Ok, Err, sym, ap, ◌∙◌}
use Rattle.shared.proofs.Operating.{written}
use Rattle.shared.proofs.locked_async.parts.operations.write_or_wait.Goals as goal

pub returns-in-Ok-eq0 : goal.returns-in-Ok-eq0
returns-in-Ok-eq0 g c =
    let O = g.S.OutputStream in
    let laws = g.met.S.OutputStream in
    let answer = c.in-Ok-eq0.ensures in
    written O.meaning O.turned O.checked O.accepts O.wrote laws.permits laws.keeping.checks (O.view c.args.stream.now) _ c.args.bytes.now (Ok 0) c.requires (sym (ap Ok c.in-Ok-eq0.field-0-test) ∙ answer.told) answer.left

pub returns-in-Err : goal.returns-in-Err
returns-in-Err g c =
    let O = g.S.OutputStream in
    let laws = g.met.S.OutputStream in
    let answer = c.in-Err.ensures in
    written O.meaning O.turned O.checked O.accepts O.wrote laws.permits laws.keeping.checks (O.view c.args.stream.now) _ c.args.bytes.now (Err c.in-Err.e) c.requires answer.told answer.left
