use Rattle.assise_lease_tree.proofs.Common.{sym, true≢false, clients_at, nodes_at, levels_of}
use Rattle.assise_lease_tree.proofs.CallsOnLevels.{tree_lawful, node_has, is_granted, grant_keeps}
use Rattle.assise_lease_tree.proofs.lease_tree.LeaseTreeOf.grant.Goals as goal

pub invariant_of-self : goal.invariant_of-self
invariant_of-self g c =
    let lawful = grant_keeps c.grant.result (levels_of c.args.self.now) (tree_lawful c.args.self.now) c.args.request.client c.args.request.node
    c.args.request.inode c.args.request.mode (clients_at c.grant.new.self) (nodes_at c.grant.new.self) c.requires.at_home c.requires.free
    c.grant.ensures.clients c.grant.ensures.nodes c.grant.ensures.err_clients c.grant.ensures.err_nodes in
    record {
      compatible_clients = lawful.clients_compatible;
      compatible_nodes = lawful.nodes_compatible;
      under = lawful.under;
      asked_below = lawful.asked;
      known = c.args.self.now.known;
    }

pub returns-clause-granted : goal.returns-clause-granted
returns-clause-granted g c =
    is_granted (levels_of c.args.self.now) (tree_lawful c.args.self.now) c.args.request.client c.args.request.node c.args.request.inode c.args.request.mode
    (clients_at c.grant.new.self) (nodes_at c.grant.new.self) c.in_ok-grant.ensures.clients c.in_ok-grant.ensures.nodes

pub returns-in_err-grant-clause-raised : goal.returns-in_err-grant-clause-raised
returns-in_err-grant-clause-raised g c held =
    absurd (true≢false (sym (c.in_err-grant.ensures.held held
    (node_has (levels_of c.args.self.now) (tree_lawful c.args.self.now) c.args.request.client c.args.request.node c.args.request.inode c.requires.at_home
    held))))
