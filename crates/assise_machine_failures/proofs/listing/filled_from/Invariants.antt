use Rattle.assise_machine_failures.proofs.Common.{◌≡◌, ◌+◌, ◌-◌, ◌≤◌, length, standings, value_of, filled_from}
use Rattle.assise_machine_failures.proofs.listing.filled_from.Given as goal

-- those of the first nodes
abbrev pub invariant-loop-other : goal.invariant-loop-other
invariant-loop-other g l = record {
  nodes : l.nodes.items ≡ filled_from (standings (value_of l.state)) l.node (l.other - 1);
  last : l.other ≤ length l.state.nodes + 1;
}
