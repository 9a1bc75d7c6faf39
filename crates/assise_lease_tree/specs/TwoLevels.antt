-- Who holds which inode on two levels, and what each call of leases does to it.
use Rattle.std.specs.Prelude.{◌≡◌, ◌≢◌, ℕ, Bool, true, false, List, [], None}
use Rattle.std.specs.List.{list_any}
use Rattle.assise_names.specs.declared.mode.Mode.{Mode}
use Rattle.assise_lease_table.specs.declared.lease.Lease.{Lease}
use Rattle.assise_lease_table.specs.LeaseMaps.{Becomes, SameLeases}
use Rattle.assise_lease_table.specs.Leases.{compatible, lease_of, serves, without_holder, revoke, is_own}
use Rattle.assise_lease_table.specs.Tables.{Enrols}
use Rattle.assise_lease_tree.specs.Levels.{Homes, Under, AskedBelow, is_busy, is_free, in_way, clients_granted, nodes_granted, nodes_asked, nodes_released}

-- the node of each client, and the leases of each inode that clients and nodes have
pub record TwoLevels : Type 0 where
  pub home : Homes
  pub clients : ℕ → List Lease
  pub nodes : ℕ → List Lease

-- nobody, and nothing is held
abbrev pub nobody : TwoLevels
nobody = record { home = λ _. None; clients = λ _. []; nodes = λ _. [] }

-- on both levels two hold one inode only if both read; each client's lease lies under one of its node that is as strong;
-- below what was asked for each is revoked
pub record LevelsInvariant (t : TwoLevels) : Type 0 where
  pub clients_compatible : (i : ℕ) → compatible (t.clients i) ≡ true
  pub nodes_compatible : (i : ℕ) → compatible (t.nodes i) ≡ true
  pub under : (i : ℕ) → Under t.home (t.clients i) (t.nodes i)
  pub asked : (i : ℕ) → AskedBelow t.home (t.clients i) (t.nodes i)

-- each client lives where it did, and each inode has the leases that it had
pub record SameLevels (old new : TwoLevels) : Type 0 where
  pub home : (c : ℕ) → new.home c ≡ old.home c
  pub clients : SameLeases old.clients new.clients
  pub nodes : SameLeases old.nodes new.nodes

-- a client is taken in at a node; no lease changes
pub record EnrolsAt (old new : TwoLevels) (client node : ℕ) : Type 0 where
  pub home : Enrols old.home new.home client node
  pub clients : SameLeases old.clients new.clients
  pub nodes : SameLeases old.nodes new.nodes

-- whether a client of the node is granted the mode at once
abbrev pub is_free_for : TwoLevels → ℕ → ℕ → ℕ → Mode → Bool
is_free_for t client node inode mode = is_free t.home (t.clients inode) (t.nodes inode) client node mode

-- the client has its lease, under one of its node; no other client's lease changed, and nodes with no client that holds
-- the inode gave up what stood against the mode
pub record IsGranted (old new : TwoLevels) (client node inode : ℕ) (mode : Mode) : Type 0 where
  pub home : (c : ℕ) → new.home c ≡ old.home c
  pub clients : Becomes old.clients new.clients inode (clients_granted client mode (old.clients inode))
  pub nodes : Becomes old.nodes new.nodes inode (nodes_granted old.home (old.clients inode) node mode (old.nodes inode))
  pub held : serves (lease_of (new.clients inode) client) mode ≡ true
  pub others : (i c : ℕ) → c ≢ client → lease_of (new.clients i) c ≡ lease_of (old.clients i) c

-- the leases of exactly those clients that stood in the way are revoked, and those of their nodes; some client holds the
-- inode revoked
pub record IsAskedFor (old new : TwoLevels) (client node inode : ℕ) (mode : Mode) : Type 0 where
  pub home : (c : ℕ) → new.home c ≡ old.home c
  pub clients : Becomes old.clients new.clients inode (revoke (in_way old.home (old.nodes inode) client node mode) (old.clients inode))
  pub nodes : Becomes old.nodes new.nodes inode (nodes_asked old.home (old.clients inode) node mode (old.nodes inode))
  pub revoked : list_any (λ l. l.revoked) (new.clients inode) ≡ true

-- the client of the node lets go of the inode, and the asked lease of its node goes with the last client below
pub record ReleasesLease (old new : TwoLevels) (client node inode : ℕ) : Type 0 where
  pub home : (c : ℕ) → new.home c ≡ old.home c
  pub clients : Becomes old.clients new.clients inode (without_holder client (old.clients inode))
  pub nodes : Becomes old.nodes new.nodes inode (nodes_released old.home (without_holder client (old.clients inode)) node (old.nodes inode))

-- all leases of the client are revoked
pub record IsRevoked (old new : TwoLevels) (client : ℕ) : Type 0 where
  pub home : (c : ℕ) → new.home c ≡ old.home c
  pub clients : (i : ℕ) → new.clients i ≡ revoke (is_own client) (old.clients i)
  pub nodes : SameLeases old.nodes new.nodes

-- no client of the node holds an inode
abbrev pub IsIdle : TwoLevels → ℕ → Type 0
IsIdle t node = (i : ℕ) → is_busy t.home (t.clients i) node ≡ false

-- all leases of the node are taken away
pub record IsFreed (old new : TwoLevels) (node : ℕ) : Type 0 where
  pub home : (c : ℕ) → new.home c ≡ old.home c
  pub clients : SameLeases old.clients new.clients
  pub nodes : (i : ℕ) → new.nodes i ≡ without_holder node (old.nodes i)
