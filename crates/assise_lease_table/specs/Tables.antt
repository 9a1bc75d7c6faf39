-- What is seen of a table: the leases of each inode, and the revoker of each client.
use Rattle.std.specs.Prelude.{◌≡◌, ◌≢◌, ℕ, List, Option, Some, nat_eq}
use Rattle.indexmap.specs.IndexMap.{get}
use Rattle.assise_lease_table.specs.declared.lease.Lease.{Lease}
use Rattle.assise_lease_table.specs.declared.client_table.ClientTableOf.{ClientTableOf}
use Rattle.assise_lease_table.specs.declared.node_table.NodeTable.{NodeTable}
use Rattle.assise_lease_table.specs.LeaseMaps.{leases_at, LeaseHasRoom}

-- the leases that clients have of the inode
abbrev pub client_leases : {C : Type 0} → ClientTableOf C → ℕ → List Lease
client_leases t i = leases_at t.leases i

-- the leases that nodes have of the inode
abbrev pub node_leases : NodeTable → ℕ → List Lease
node_leases t i = leases_at t.leases i

-- what the client stored to be asked
abbrev pub revoker_of : {C : Type 0} → ClientTableOf C → ℕ → Option C
revoker_of t c = get nat_eq t.revokers c

-- a lease of the inode for the client takes no memory
abbrev pub HasClientRoom : {C : Type 0} → ClientTableOf C → ℕ → ℕ → Type 0
HasClientRoom t c i = LeaseHasRoom t.leases c i

-- a lease of the inode for the node takes no memory
abbrev pub HasNodeRoom : NodeTable → ℕ → ℕ → Type 0
HasNodeRoom t n i = LeaseHasRoom t.leases n i

-- the client has the revoker, and each other client what it had
pub record Enrols {C : Type 0} (old new : ℕ → Option C) (client : ℕ) (revoker : C) : Type 0 where
  pub here : new client ≡ Some revoker
  pub elsewhere : (c : ℕ) → c ≢ client → new c ≡ old c

-- each client has the revoker that it had
abbrev pub SameRevokers : {C : Type 0} → (ℕ → Option C) → (ℕ → Option C) → Type 0
SameRevokers old new = (c : ℕ) → new c ≡ old c
