use Rattle.promises.proofs.Examples.{lawful, waiting_run_exists}
use Rattle.promises.proofs.laws.a_waiting_run_exists.Goals as goal

pub returns : goal.returns
returns c = record { lawful = lawful; waiting = waiting_run_exists }
