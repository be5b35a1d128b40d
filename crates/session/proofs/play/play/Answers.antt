use Rattle.std.proofs.Common.{vec_items, sym}
use Rattle.std.proofs.lemmas.Result.{IfOk-weaker}
use Rattle.worker_stream.specs.WorkerOf.{worker_view}
use Rattle.shared.specs.SharedOf.{shared_view}
use Rattle.script.specs.Lines.{lines}
use Rattle.script_reading.specs.Reading.{lines_read, unread}
use Rattle.script_reading.specs.ReadingOf.{writer_view}
use Rattle.session.specs.Scripts.{Played}
use Rattle.session.proofs.play.play.Goals as goal

pub returns : goal.returns
returns c =
    let l = c.args.limits in
    let o = c.unwrap-outcome.result in
    let ran = (rw c.unwrap-outcome.ensures at c.run.ensures).1 in
    IfOk-weaker c.merge.result _ (λ v. Played l.budget l.handles (lines_read unread (lines c.args.text.now)) (vec_items v))
    (λ v m. record {
      replies = vec_items o.answers;
      left = shared_view (worker_view writer_view) o.stream;
      ran = rw (sym c.in_ok-writer.ensures, sym c.deref.ensures.value) ran;
      printed = rw (sym c.in_ok-writer.ensures, sym c.deref-2.ensures.value, sym c.deref-3.ensures.value) m;
    })
    c.merge.ensures
