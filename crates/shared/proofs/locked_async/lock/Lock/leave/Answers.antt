use Rattle.std.proofs.Common.{◌∙◌, ◌==◌, not, rules}
use Rattle.arrayvec.proofs.ArrayVecLemmas.{filter-from_retain}
use Rattle.shared.proofs.Queued.{filter_without}
use Rattle.shared.proofs.locked_async.lock.Lock.leave.Goals as goal

pub returns : goal.returns
returns c =
    filter-from_retain _ (λ x. not (x == c.args.handle)) _ (λ x b f y r. search rules) _ _ c.retain.ensures.filtered
    ∙ filter_without c.args.handle _
