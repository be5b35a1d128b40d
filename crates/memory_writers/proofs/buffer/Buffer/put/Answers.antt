use Rattle.std.proofs.Common.{ap, ◌∙◌, arith, rules}
use Rattle.memory_writers.specs.Area.{extended}
use Rattle.memory_writers.proofs.Areas.{put_extends}
use Rattle.memory_writers.proofs.buffer.Buffer.put.Goals as goal

pub returns-clause-left : goal.returns-clause-left
returns-clause-left c =
    rw c.deref_mut.ensures.value (
    put_extends c.self.inside.bytes _ _ c.min-n.result _ _ _ _ c.self.invariant.0 (omega arith) (omega arith) (omega arith) (search rules)
    ∙ ap (extended c.min-n.result c.args.part.now) c.self.view_is)
