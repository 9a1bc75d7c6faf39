-- The whole state as one value.
-- Assise (OSDI 2020), section 3 (CC-NVM: update logs, shared areas, leases, cluster manager).
use Rattle.std.specs.Prelude.{ℕ, List}
use Rattle.assise_history.specs.Entries.{EntryValue}
use Rattle.assise_digest.specs.Region.{RegionValue}
use Rattle.assise_lease_table.specs.declared.lease.Asked.{Asked}
use Rattle.assise_lease_tree.specs.TwoLevels.{TwoLevels}
use Rattle.assise_manager.specs.Membership.{Membership}
use Rattle.assise_manager.specs.Standings.{Standing}
use Rattle.assise_model_leases.specs.Leases.{Leases}
use Rattle.assise_machine_state.specs.ClientValues.{ClientValue, client_in, cut_of}

pub record StateValue : Type 0 where
  -- what each node has
  pub nodes : List RegionValue
  -- which nodes are full, and what the others may have missed
  pub members : Membership
  pub clients : List ClientValue
  -- who holds which inode
  pub levels : TwoLevels
  -- what clients answered that were asked for their leases
  pub cuts : List Asked
  -- what was answered and what happened, in order
  pub history : List EntryValue
  -- the most records of a client's log
  pub limit : ℕ

-- how each node stands
abbrev pub standings : StateValue → List Standing
standings s = s.members.nodes

-- who holds which inode, with the cuts of what is revoked
unfoldable pub leases_of : StateValue → Leases
leases_of s = record { levels = s.levels; cut = λ c i. cut_of s.cuts c (client_in s.clients c) i }
