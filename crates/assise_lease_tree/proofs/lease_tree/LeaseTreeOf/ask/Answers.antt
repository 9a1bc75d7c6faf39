use Rattle.assise_lease_tree.proofs.Common.{nat_eq, get, clients_at, nodes_at, levels_of}
use Rattle.assise_lease_tree.proofs.CallsOnLevels.{tree_lawful, is_asked_for}
use Rattle.assise_lease_tree.proofs.Shared.Steps.{asked_lawful}
use Rattle.assise_lease_tree.proofs.lease_tree.LeaseTreeOf.ask.Goals as goal

pub returns-clause-asked : goal.returns-clause-asked
returns-clause-asked g c =
    is_asked_for (levels_of c.args.self.now) (tree_lawful c.args.self.now) c.args.request.client c.args.request.node c.args.request.inode c.args.request.mode
    (clients_at c.ask.new.self) (nodes_at c.ask.new.self) c.requires.at_home c.requires.blocked c.ask.ensures.clients c.ask.ensures.nodes

pub invariant_of-self : goal.invariant_of-self
invariant_of-self g c =
    let asked = is_asked_for (levels_of c.args.self.now) (tree_lawful c.args.self.now) c.args.request.client c.args.request.node c.args.request.inode
    c.args.request.mode (clients_at c.ask.new.self) (nodes_at c.ask.new.self) c.requires.at_home c.requires.blocked c.ask.ensures.clients
    c.ask.ensures.nodes in
    let lawful = asked_lawful (levels_of c.args.self.now) (tree_lawful c.args.self.now)
    (record { home = get nat_eq c.args.self.now.homes; clients = clients_at c.ask.new.self; nodes = nodes_at c.ask.new.self }) c.args.request.client
    c.args.request.node c.args.request.inode c.args.request.mode c.requires.at_home asked in
    record {
      compatible_clients = lawful.clients_compatible;
      compatible_nodes = lawful.nodes_compatible;
      under = lawful.under;
      asked_below = lawful.asked;
      known = c.args.self.now.known;
    }
