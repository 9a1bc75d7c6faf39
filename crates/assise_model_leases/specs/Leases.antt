-- The leases of clients and of their nodes, and how far a client's log has to be digested before a lease goes to another.
-- Assise (OSDI 2020), section 3 (CC-NVM: leases that are delegated to nodes and clients, and revoked).
use Rattle.std.specs.Prelude.{◌≡◌, ℕ, ◌-◌, ◌≤◌, Bool, true, false, List, drop, Option, Some, None}
use Rattle.assise_record.specs.LogRecord.{LogRecord}
use Rattle.assise_record.specs.Records.{all_effects}
use Rattle.assise_inode_table.specs.Effects.{touched, contains}
use Rattle.assise_lease_table.specs.declared.lease.Lease.{Lease}
use Rattle.assise_lease_table.specs.Leases.{lease_of}
use Rattle.assise_lease_tree.specs.Levels.{is_revoked}
use Rattle.assise_lease_tree.specs.TwoLevels.{TwoLevels, LevelsInvariant}
use Rattle.assise_model_world.specs.ClientSteps.{is_for_writing}
use Rattle.assise_model_world.specs.World.{World, IsClient, end_of_log}

pub record Leases : Type 0 where
  -- who holds which inode
  pub levels : TwoLevels
  -- of a client's lease of an inode that is revoked: a place in the client's log. What lies before it has to be digested by all
  -- full nodes before the lease goes to another
  pub cut : ℕ → ℕ → ℕ

-- the client's lease of the inode
abbrev pub client_lease : Leases → ℕ → ℕ → Option Lease
client_lease l c i = lease_of (l.levels.clients i) c

abbrev pub IsRevokedLease : Leases → ℕ → ℕ → Type 0
IsRevokedLease l c i = is_revoked (client_lease l c i) ≡ true

-- ---- cuts

-- a client's records from a place on
unfoldable pub client_records_from : World → ℕ → ℕ → List LogRecord
client_records_from w c k = drop (k - w.first c) (w.records c)

-- no record of the client from this place on touches the inode
pub record CoversFrom (w : World) (c i k : ℕ) : Type 0 where
  pub to_end : k ≤ end_of_log w c
  pub untouched : contains (touched (all_effects (client_records_from w c k))) i ≡ false

-- ---- the invariant between steps

abbrev pub is_held : Option Lease → Bool
is_held None = false
is_held (Some a) = true

abbrev pub is_written : Option Lease → Bool
is_written None = false
is_written (Some a) = is_for_writing a.mode

-- clients hold what their leases say
pub record AreHeld (w : World) (l : Leases) : Type 0 where
  pub holds : (c i : ℕ) → w.holds c i ≡ is_held (client_lease l c i)
  pub writes : (c i : ℕ) → w.writes c i ≡ is_written (client_lease l c i)

pub record AreLeases (w : World) (l : Leases) : Type 0 where
  -- compatible on both levels, each client's lease under one of its node
  pub lawful : LevelsInvariant l.levels
  pub held : AreHeld w l
  -- each client lives at its home, and nobody else is known
  pub homes : (c : ℕ) → IsClient w c → l.levels.home c ≡ Some (w.home c)
  pub strangers : (c : ℕ) → (IsClient w c → ⊥) → l.levels.home c ≡ None
  -- a revoked lease's cut covers, and the log of a client that lives is to be replicated up to it; of a client whose node failed all
  -- full nodes have all that is left
  pub covered : (c i : ℕ) → IsRevokedLease l c i → CoversFrom w c i (l.cut c i)
  pub goals : (c i : ℕ) → w.lives c ≡ true → IsRevokedLease l c i → l.cut c i ≤ w.goal c
  -- what lies before it in the log are whole groups
  pub borders : (c i : ℕ) → IsRevokedLease l c i → w.first c ≤ l.cut c i → w.border c (l.cut c i) ≡ true
  -- a client that crashed, or whose node failed, has only revoked leases
  pub crashed : (c i : ℕ) → w.crashed c ≡ true → is_held (client_lease l c i) ≡ true → IsRevokedLease l c i
  pub failed : (c i : ℕ) → w.lives c ≡ false → is_held (client_lease l c i) ≡ true → IsRevokedLease l c i
