use Rattle.assise_machine_state.proofs.Shared.AwayObserved.{members_areas, members_rest, members_shaped}
use Rattle.assise_machine_state.proofs.seen_failures.members_are_observed.Goals as goal

pub returns : goal.returns
returns r = record { rests = members_rest; areas = members_areas; shape = members_shaped }
