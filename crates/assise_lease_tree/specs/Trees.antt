-- What is seen of a tree of leases: its two levels, and the revoker of each client.
use Rattle.std.specs.Prelude.{ℕ, Option, nat_eq}
use Rattle.indexmap.specs.IndexMap.{get}
use Rattle.assise_lease_table.specs.Tables.{SameRevokers}
use Rattle.assise_lease_tree.specs.declared.lease_tree.LeaseTreeOf.{LeaseTreeOf}
use Rattle.assise_lease_tree.specs.LeaseLevels.{clients_at, nodes_at}
use Rattle.assise_lease_tree.specs.TwoLevels.{TwoLevels}

abbrev pub levels_of : {C : Type 0} → LeaseTreeOf C → TwoLevels
levels_of t = record { home = get nat_eq t.homes; clients = clients_at t.leases; nodes = nodes_at t.leases }

-- what the client stored to be asked
abbrev pub stored_by : {C : Type 0} → LeaseTreeOf C → ℕ → Option C
stored_by t c = get nat_eq t.revokers c

-- each client has stored the same
abbrev pub KeepsRevokers : {C : Type 0} → LeaseTreeOf C → LeaseTreeOf C → Type 0
KeepsRevokers old new = SameRevokers (stored_by old) (stored_by new)
