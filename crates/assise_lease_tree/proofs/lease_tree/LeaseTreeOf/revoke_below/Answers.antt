use Rattle.assise_lease_tree.proofs.Common.{nat_eq, refl, get, clients_at, nodes_at, lives, levels_of}
use Rattle.assise_lease_tree.proofs.CallsOnLevels.{tree_lawful}
use Rattle.assise_lease_tree.proofs.Shared.Steps.{all_revoked_lawful}
use Rattle.assise_lease_tree.proofs.lease_tree.LeaseTreeOf.revoke_below.Goals as goal

pub invariant_of-self : goal.invariant_of-self
invariant_of-self g c =
    let lawful = all_revoked_lawful (levels_of c.args.self.now) (tree_lawful c.args.self.now)
    (record { home = get nat_eq c.args.self.now.homes; clients = clients_at c.revoke.new.self; nodes = nodes_at c.revoke.new.self })
    (λ l. lives (get nat_eq c.args.self.now.homes) l.holder c.args.node) (λ d. refl) c.revoke.ensures.clients c.revoke.ensures.nodes in
    record {
      compatible_clients = lawful.clients_compatible;
      compatible_nodes = lawful.nodes_compatible;
      under = lawful.under;
      asked_below = lawful.asked;
      known = c.args.self.now.known;
    }
