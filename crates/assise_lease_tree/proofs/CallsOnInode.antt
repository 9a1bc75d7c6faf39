-- What the steps of a call, one after another, make of the leases of one inode.
use Rattle.assise_lease_tree.proofs.Common.{◌≡◌, ℕ, ◌&&◌, Bool, false, cond, not, List, ap, Mode, Lease, lease_of, without_holder, leave_out, revoke, Homes}
use Rattle.assise_lease_tree.proofs.Common.{is_revoked, is_busy, gives_up, nodes_released, arith}
use Rattle.assise_lease_tree.proofs.AskSound.{busy_same}

pub nodes_stay : (home : Homes) (cs ns : List Lease) (n : ℕ) → is_revoked (lease_of ns n) ≡ false → nodes_released home cs n ns ≡ ns
nodes_stay home cs ns n thawed = ap (λ b. cond (b && not (is_busy home cs n)) (without_holder n ns) ns) thawed

-- what is given up over these clients' leases and over others that hold for the same nodes
given_up_alike : (home : Homes) (cs ds : List Lease) (n : ℕ) (mode : Mode) (ns : List Lease) → ((m : ℕ) → is_busy home ds m ≡ is_busy home cs m) →
    leave_out (gives_up home ds n mode) ns ≡ leave_out (gives_up home cs n mode) ns
given_up_alike home cs ds n mode ns same = grind arith

-- what is given up over clients' leases of which some were revoked
pub given_up_still : (home : Homes) (choice : Lease → Bool) (cs : List Lease) (n : ℕ) (mode : Mode) (ns : List Lease) →
    leave_out (gives_up home (revoke choice cs) n mode) ns ≡ leave_out (gives_up home cs n mode) ns
given_up_still home choice cs n mode ns = given_up_alike home cs (revoke choice cs) n mode ns (busy_same home choice cs)
