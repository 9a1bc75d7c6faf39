use Rattle.assise_machine_state.proofs.Common.{arith}
use Rattle.assise_machine_state.proofs.Prefixes.{drop_areas, drop_shaped, dropped, dropped_twice, has_prefixes}
use Rattle.assise_machine_state.proofs.seen_nodes.dropped_prefixes_are_observed.Goals as goal

pub returns : goal.returns
returns r = search (dropped, drop_areas, drop_shaped, has_prefixes, dropped_twice, arith) parts 3
