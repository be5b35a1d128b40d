use Rattle.std.proofs.Common.{◌≡◌, ◌≤◌, map, length, take, vec_items, vec_len, vec_capacity}
use Rattle.worker_stream.specs.WorkerOf.{worker_view}
use Rattle.promises.specs.History.{History}
use Rattle.promises.specs.Promises.{Run}
use Rattle.handles.specs.Calls.{call_view}
use Rattle.calls.specs.Calls.{Performed}
use Rattle.shared.specs.SharedOf.{shared_view}
use Rattle.calls.proofs.run.run.Given as goal

abbrev pub invariant-loop-call : goal.invariant-loop-call
invariant-loop-call g l =
    let W = g.W.Writer in
    let view = shared_view (worker_view W.view) in
    (l.call-index ≤ length l.calls)
    × (vec_len l.answers ≡ l.call-index)
    × (length l.calls ≤ vec_capacity l.answers)
    × ((es : History) × Performed (map call_view (take l.call-index l.calls)) (vec_items l.answers) es × Run W.writes W.flushes (view l.initial.stream).stream.free (length (view l.initial.stream).handles) (view l.initial.stream).stream.writer es (view l.stream))
