use Rattle.assise_lease_tree.proofs.Common.{nat_eq, refl, get, clients_at, nodes_at, levels_of}
use Rattle.assise_lease_tree.proofs.CallsOnLevels.{tree_lawful}
use Rattle.assise_lease_tree.proofs.Shared.Steps.{freed_lawful}
use Rattle.assise_lease_tree.proofs.lease_tree.LeaseTreeOf.free_node.Goals as goal

pub invariant_of-self : goal.invariant_of-self
invariant_of-self g c =
    let lawful = freed_lawful (levels_of c.args.self.now) (tree_lawful c.args.self.now)
    (record { home = get nat_eq c.args.self.now.homes; clients = clients_at c.free.new.self; nodes = nodes_at c.free.new.self }) c.args.node c.requires.idle
    (record { home = λ d. refl; clients = c.free.ensures.clients; nodes = c.free.ensures.nodes }) in
    record {
      compatible_clients = lawful.clients_compatible;
      compatible_nodes = lawful.nodes_compatible;
      under = lawful.under;
      asked_below = lawful.asked;
      known = c.args.self.now.known;
    }
