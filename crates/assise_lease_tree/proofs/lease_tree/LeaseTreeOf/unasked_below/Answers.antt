use Rattle.assise_lease_tree.proofs.Common.{nat_eq, ◌∙◌, get, clients_at, lives}
use Rattle.assise_lease_tree.proofs.HolderLists.{listed_of}
use Rattle.assise_lease_tree.proofs.lease_tree.LeaseTreeOf.unasked_below.Goals as goal

pub returns-clause-all : goal.returns-clause-all
returns-clause-all g c d i =
    c.in_ok-asked.ensures.which d i ∙ listed_of (λ h. lives (get nat_eq c.args.self.now.homes) h c.args.node) d (clients_at c.args.self.now.leases i)
    (c.args.self.now.compatible_clients i)
