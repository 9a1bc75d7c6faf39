use Rattle.assise_history.proofs.Shared.Legality.{legal_run}
use Rattle.assise_history.proofs.Shared.OneMore.{legal_enough}
use Rattle.assise_history.proofs.laws.the_kept_calls_are_a_run.Goals as goal

pub returns : goal.returns
returns c = record { run = legal_run; enough = legal_enough }
