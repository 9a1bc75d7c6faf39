use Rattle.assise_lease_tree.proofs.Common.{◌==◌, ◌∙◌, clients_at}
use Rattle.assise_lease_tree.proofs.HolderLists.{listed_of}
use Rattle.assise_lease_tree.proofs.lease_tree.LeaseTreeOf.unasked_of.Goals as goal

pub returns-clause-all : goal.returns-clause-all
returns-clause-all g c d i =
    c.in_ok-asked.ensures.which d i ∙ listed_of (λ h. h == c.args.client) d (clients_at c.args.self.now.leases i) (c.args.self.now.compatible_clients i)
