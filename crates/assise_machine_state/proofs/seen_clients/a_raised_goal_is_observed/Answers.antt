use Rattle.assise_machine_state.proofs.Common.{arith}
use Rattle.assise_machine_state.proofs.Shared.Noted.{goal_noted}
use Rattle.assise_machine_state.proofs.Shared.GoalObserved.{goal_raised, goal_shaped}
use Rattle.assise_machine_state.proofs.Shared.ShapedClients.{areas_stay}
use Rattle.assise_machine_state.proofs.seen_clients.a_raised_goal_is_observed.Goals as goal

pub returns : goal.returns
returns r = search (goal_raised, areas_stay, goal_shaped, goal_noted, arith) parts 3
