use Rattle.assise_lease_tree.proofs.Common.{nat_eq, refl, sym, get, clients_at, nodes_at, levels_of}
use Rattle.assise_lease_tree.proofs.CallsOnLevels.{tree_lawful}
use Rattle.assise_lease_tree.proofs.Shared.Steps.{released_lawful}
use Rattle.assise_lease_tree.proofs.lease_tree.LeaseTreeOf.release.Goals as goal

pub invariant_of-self-2 : goal.invariant_of-self-2
invariant_of-self-2 g c =
    let lawful = released_lawful (levels_of c.args.self.now) (tree_lawful c.args.self.now)
    (record { home = get nat_eq c.args.self.now.homes; clients = clients_at c.release.new.self; nodes = nodes_at c.release.new.self }) c.args.client
    c.in-Some.home.now c.args.inode (sym c.in-Some.ensures.value)
    (record { home = λ d. refl; clients = c.release.ensures.clients; nodes = c.release.ensures.nodes }) in
    record {
      compatible_clients = lawful.clients_compatible;
      compatible_nodes = lawful.nodes_compatible;
      under = lawful.under;
      asked_below = lawful.asked;
      known = c.args.self.now.known;
    }
