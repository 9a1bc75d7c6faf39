-- Lists of calls about members, and what stands after them.
use Rattle.std.specs.Prelude.{◌≡◌, ℕ, List, [], ◌∷◌, None, ◌⊎◌}
use Rattle.std.specs.Ordering.{nat_cmp}
use Rattle.std.specs.FinSet as set
use Rattle.assise_manager.specs.Membership.{Membership}
use Rattle.assise_manager.specs.Changes.{failed, failure_fault, back, return_fault, with_copied, filling_fault, joined, join_fault, noted, raised, raise_fault}

pub data MemberCall : Type 0 where
  -- a node failed, while these inodes may not be everywhere
  fail : (node : ℕ) (inodes : set.FinSet nat_cmp) → MemberCall
  -- a node that was down comes back
  come_back : (node : ℕ) → MemberCall
  -- a node that comes back got an inode
  note_copied : (node inode : ℕ) → MemberCall
  -- a node that came back is full again
  join : (node : ℕ) → MemberCall
  -- inodes were written at a node
  note_written : (node : ℕ) (inodes : set.FinSet nat_cmp) → MemberCall
  -- a node is raised
  raise : (node : ℕ) → MemberCall

-- what a call that isn't refused does, where its condition holds
abbrev pub MemberCallDoes : Membership → MemberCall → Membership → Type 0
MemberCallDoes old (fail node inodes) new = (failure_fault old node ≡ None) × (new ≡ failed old node inodes)
MemberCallDoes old (come_back node) new = (return_fault old node ≡ None) × (new ≡ back old node)
MemberCallDoes old (note_copied node inode) new = (filling_fault old node ≡ None) × (new ≡ with_copied old node inode)
MemberCallDoes old (join node) new = (join_fault old node ≡ None) × (new ≡ joined old node)
MemberCallDoes old (note_written node inodes) new = new ≡ noted old node inodes
MemberCallDoes old (raise node) new = (raise_fault old node ≡ None) × (new ≡ raised old node)

-- a refused call leaves all as it was
abbrev pub MemberCallMayDo : Membership → MemberCall → Membership → Type 0
MemberCallMayDo old call new = MemberCallDoes old call new ⊎ (new ≡ old)

-- what a list of calls does, one after another
abbrev pub AllMemberCalls : Membership → List MemberCall → Membership → Type 0
AllMemberCalls old [] new = new ≡ old
AllMemberCalls old (call ∷ calls) new = (next : Membership) × MemberCallMayDo old call next × AllMemberCalls next calls new
