use Rattle.std.proofs.Common.{vec_items, arith}
use Rattle.worker_stream.specs.WorkerOf.{worker_view}
use Rattle.promises.specs.History.{start}
use Rattle.promises.proofs.PromisesHold.{promises_hold}
use Rattle.calls.specs.Calls.{none}
use Rattle.shared.specs.SharedOf.{shared_view}
use Rattle.calls.proofs.Runs.{started, from_limits, all_kept, one_more, all_performed}
use Rattle.calls.proofs.run.run.Goals as goal

pub loop-call-init : goal.loop-call-init
loop-call-init g c =
    let W = g.W.Writer in (
      omega arith,
      c.clear.ensures.len,
      omega (arith, c.clear.ensures.capacity, c.if-capacity-calls.false, c.capacity.ensures),
      (start, rw c.clear.ensures.items none, started W.writes W.flushes c.args.limits.budget c.args.limits.handles (W.view c.args.writer) (shared_view (worker_view W.view) c.new-stream.result) c.new-stream.ensures),
    )

pub loop-call-preserved : goal.loop-call-preserved
loop-call-preserved g c =
    let W = g.W.Writer in
    let view = shared_view (worker_view W.view) in
    let inv = c.loop-call.invariant in (
      omega (arith, c.loop-call-test.true),
      omega (arith, c.push_reserved.ensures.len, inv.1),
      omega (arith, c.push_reserved.ensures.capacity, inv.2),
      one_more c.args.calls.now c.loop-call.call-index _ (vec_items c.loop-call.answers) (vec_items c.push_reserved.new.self) c.perform-answer.result (view c.loop-call.stream) (view c.perform-answer.new.stream) c.loop-call-test.true c.push_reserved.ensures.items inv.3 c.perform-answer.ensures,
    )

pub returns : goal.returns
returns g c =
    let W = g.W.Writer in
    let view = shared_view (worker_view W.view) in
    let inv = c.loop-call.invariant.3 in
    let b = c.args.limits.budget in
    let h = c.args.limits.handles in
    let w = W.view c.args.writer in
    let run = from_limits W.writes W.flushes b h w (view c.new-stream.result) c.new-stream.ensures inv.0 (view c.loop-call.stream) inv.2 in (
      omega (arith, c.if-capacity-calls.false, c.capacity.ensures),
      record {
        history = inv.0;
        performed = all_performed c.args.calls.now c.loop-call.call-index (vec_items c.loop-call.answers) inv.0 c.loop-call-test.false inv.1;
        run = run;
        kept = all_kept W.writes W.flushes W.taken W.covered (promises_hold _ _ _ _ g.met.W.Writer.wrote g.met.W.Writer.flushed) b h w inv.0 (view c.loop-call.stream) run;
      },
    )
