use Rattle.std.proofs.Common.{rules}
use Rattle.worker_stream.proofs.Cuts.{next_is_rest}
use Rattle.worker_stream.proofs.write_stream.store.Store.next_job.Goals as goal

pub returns-in-Some : goal.returns-in-Some
returns-in-Some c =
    let s = c.self.inside in
    rw (← c.self.view_is) (next_is_rest s.lengths.items s.bytes.items c.in-Some.field-0.now s.progress _ _ c.self.invariant.whole c.self.invariant.along (search rules) (rw (c.deref-in-Some.ensures.0, c.from.ensures)))
