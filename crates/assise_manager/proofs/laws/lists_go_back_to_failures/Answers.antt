use Rattle.assise_manager.proofs.Shared.Lawful.{down_listed, return_listed, list_there}
use Rattle.assise_manager.proofs.laws.lists_go_back_to_failures.Goals as goal

pub returns-clause-down : goal.returns-clause-down
returns-clause-down c = down_listed

pub returns-clause-returning : goal.returns-clause-returning
returns-clause-returning c = return_listed

pub returns-clause-lists : goal.returns-clause-lists
returns-clause-lists c = list_there
