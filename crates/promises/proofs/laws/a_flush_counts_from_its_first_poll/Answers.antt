use Rattle.promises.proofs.Examples.{first_poll_counts}
use Rattle.promises.proofs.laws.a_flush_counts_from_its_first_poll.Goals as goal

pub returns : goal.returns
returns c = first_poll_counts
