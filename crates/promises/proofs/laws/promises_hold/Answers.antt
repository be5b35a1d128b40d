use Rattle.promises.proofs.PromisesHold.{promises_hold}
use Rattle.promises.proofs.laws.promises_hold.Goals as goal

pub returns : goal.returns
returns g c = promises_hold _ _ _ _ g.met.W.Writer.wrote g.met.W.Writer.flushed
