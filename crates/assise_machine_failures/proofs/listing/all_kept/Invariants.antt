use Rattle.assise_machine_failures.proofs.Common.{◌≡◌, ◌+◌, ◌-◌, ◌≤◌, length, world_of, value_of, kept_to}
use Rattle.assise_machine_failures.proofs.listing.all_kept.Given as goal

-- the places of the first clients
abbrev pub invariant-loop-client : goal.invariant-loop-client
invariant-loop-client g l = record {
  places : l.all.items ≡ kept_to (world_of (value_of l.state)) l.node (l.client - 1);
  last : l.client ≤ length l.state.clients + 1;
}
