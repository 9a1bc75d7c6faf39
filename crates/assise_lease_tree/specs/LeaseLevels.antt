-- The leases of each inode on both levels, as a map keeps them.
use Rattle.std.specs.Prelude.{ℕ, List, nat_eq}
use Rattle.indexmap.specs.IndexMap.{get}
use Rattle.assise_lease_table.specs.declared.lease.Lease.{Lease}
use Rattle.assise_lease_table.specs.Lists.{leases_in}
use Rattle.assise_lease_tree.specs.declared.lease_levels.LeaseLevels.{LeaseLevels}

-- the leases that clients have of the inode
abbrev pub clients_at : LeaseLevels → ℕ → List Lease
clients_at m i = leases_in (λ b. b.clients.items) (get nat_eq m.inodes i)

-- the leases that nodes have of the inode
abbrev pub nodes_at : LeaseLevels → ℕ → List Lease
nodes_at m i = leases_in (λ b. b.nodes.items) (get nat_eq m.inodes i)
