-- Lists of lease calls, and what stands after them.
use Rattle.std.specs.Prelude.{◌≡◌, ℕ, true, false, List, [], ◌∷◌, Some, None, ◌⊎◌}
use Rattle.assise_names.specs.declared.mode.Mode.{Mode}
use Rattle.assise_lease_tree.specs.TwoLevels.{TwoLevels, SameLevels, EnrolsAt, is_free_for, IsGranted, IsAskedFor, ReleasesLease, IsRevoked, IsIdle, IsFreed}

pub data LeaseCall : Type 0 where
  -- takes a client of a node in
  enrol : (client node : ℕ) → LeaseCall
  -- gets a client of a node a lease of an inode
  acquire : (client node inode : ℕ) → Mode → LeaseCall
  -- takes the lease that a client of a node has of an inode away
  release : (client node inode : ℕ) → LeaseCall
  -- revokes all leases of a client
  revoke_all : (client : ℕ) → LeaseCall
  -- takes all leases of a node away
  free_node : (node : ℕ) → LeaseCall

-- what a call that isn't refused does, where its condition holds
abbrev pub LeaseCallDoes : TwoLevels → LeaseCall → TwoLevels → Type 0
LeaseCallDoes old (enrol client node) new = (old.home client ≡ None) × EnrolsAt old new client node
LeaseCallDoes old (acquire client node inode mode) new = (old.home client ≡ Some node) ×
    (((is_free_for old client node inode mode ≡ true) × IsGranted old new client node inode mode)
    ⊎ ((is_free_for old client node inode mode ≡ false) × IsAskedFor old new client node inode mode))
LeaseCallDoes old (release client node inode) new = (old.home client ≡ Some node) × ReleasesLease old new client node inode
LeaseCallDoes old (revoke_all client) new = IsRevoked old new client
LeaseCallDoes old (free_node node) new = IsIdle old node × IsFreed old new node

-- a refused call leaves all as it was
abbrev pub LeaseCallMayDo : TwoLevels → LeaseCall → TwoLevels → Type 0
LeaseCallMayDo old call new = LeaseCallDoes old call new ⊎ SameLevels old new

-- what a list of calls does, one after another
abbrev pub AllLeaseCalls : TwoLevels → List LeaseCall → TwoLevels → Type 0
AllLeaseCalls old [] new = SameLevels old new
AllLeaseCalls old (call ∷ calls) new = (next : TwoLevels) × LeaseCallMayDo old call next × AllLeaseCalls next calls new
