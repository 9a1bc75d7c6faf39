use Rattle.assise_machine_state.proofs.Shared.CoalescingSeen.{coalesced_groups, coalesced_shape, coalescing_areas, coalescing_noted}
use Rattle.assise_machine_state.proofs.seen_clients.a_coalescing_is_observed.Goals as goal

pub returns : goal.returns
returns r = record { regroups = coalesced_groups; others = coalescing_areas; shape = coalesced_shape; noted = coalescing_noted }
