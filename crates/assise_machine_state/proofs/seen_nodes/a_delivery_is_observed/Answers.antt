use Rattle.assise_machine_state.proofs.Common.{arith}
use Rattle.assise_machine_state.proofs.Shared.ReceiptObserved.{delivered, delivery_shaped, has_prefix, other_areas}
use Rattle.assise_machine_state.proofs.seen_nodes.a_delivery_is_observed.Goals as goal

pub returns : goal.returns
returns r = grind (arith, delivered, other_areas, delivery_shaped, has_prefix)
