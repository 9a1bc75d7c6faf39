use Rattle.assise_workers.proofs.Common.{◌≡◌, ◌≤◌, ◌+◌, ◌-◌, map, IsPassOf, client, last, opens, seen, node_at, nodes_up_to}
use Rattle.assise_workers.proofs.nodes.workers_up_to.Given as goal

-- the pass is as it was, and the nodes before have their workers
abbrev pub invariant-loop-node : goal.invariant-loop-node
invariant-loop-node g l = record {
  free : IsPassOf l.keeper l.pass;
  same : (seen l.pass ≡ seen l.fn.pass) × (client l.pass ≡ client l.fn.pass);
  right : opens l.pass ≡ opens l.fn.pass;
  kept : last l.pass ≡ last l.fn.pass;
  made : map node_at l.nodes.items ≡ nodes_up_to (l.node - 1);
  low : l.node ≤ l.last + 1;
}
