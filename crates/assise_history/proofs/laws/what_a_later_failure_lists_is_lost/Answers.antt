use Rattle.assise_history.proofs.Shared.Lost.{lost_exactly}
use Rattle.assise_history.proofs.laws.what_a_later_failure_lists_is_lost.Goals as goal

pub returns : goal.returns
returns c = λ later x. lost_exactly later x
