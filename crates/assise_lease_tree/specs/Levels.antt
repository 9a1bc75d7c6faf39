-- The leases of one inode on two levels: clients hold below their nodes, and nodes from the cluster manager. Assise (OSDI
-- 2020), section 3: CC-NVM delegates leases from the manager to nodes, and from nodes to their clients.
use Rattle.std.specs.Prelude.{◌≡◌, ℕ, ◌==◌, ◌&&◌, ◌||◌, not, Bool, true, false, cond, List, Option, Some, None}
use Rattle.std.specs.List.{list_any}
use Rattle.assise_names.specs.declared.mode.Mode.{Mode}
use Rattle.assise_lease_table.specs.declared.lease.Lease.{Lease}
use Rattle.assise_lease_table.specs.Modes.{against, strong, stronger}
use Rattle.assise_lease_table.specs.Leases.{Among, lease_of, new_lease, with_lease, without_holder, leave_out, revoke, is_rival, raise_unopposed}

-- the node of each client
abbrev pub Homes : Type 0
Homes = ℕ → Option ℕ

abbrev pub is_node : Option ℕ → ℕ → Bool
is_node None n = false
is_node (Some m) n = m == n

-- the client is one of the node
abbrev pub lives : Homes → ℕ → ℕ → Bool
lives home c n = is_node (home c) n

-- some client of the node holds the inode
abbrev pub is_busy : Homes → List Lease → ℕ → Bool
is_busy home cs n = list_any (λ l. lives home l.holder n) cs

-- the node's lease carries the client's: it is the client's node, and its lease is as strong
abbrev pub carries : Homes → Lease → Lease → Bool
carries home l k = lives home l.holder k.holder && strong k.mode l.mode

-- each client's lease lies under one of its node that is as strong
abbrev pub Under : Homes → List Lease → List Lease → Type 0
Under home cs ns = (l : Lease) → Among cs l → list_any (carries home l) ns ≡ true

-- below a node's lease that was asked for some client holds the inode, and each that does is revoked: so it grants nothing
abbrev pub AskedBelow : Homes → List Lease → List Lease → Type 0
AskedBelow home cs ns = (k : Lease) → Among ns k → k.revoked ≡ true →
    (is_busy home cs k.holder ≡ true) × ((l : Lease) → Among cs l → lives home l.holder k.holder ≡ true → l.revoked ≡ true)

-- another client's lease stands in the way of a client of node n that wants the mode: it is a client of n and stands
-- against the mode, or the lease of its node does
unfoldable pub in_way : Homes → List Lease → ℕ → ℕ → Mode → Lease → Bool
in_way home ns c n mode l =
    not (l.holder == c) && ((lives home l.holder n && against mode l.mode) || list_any (λ k. lives home l.holder k.holder && is_rival n mode k) ns)

abbrev pub is_revoked : Option Lease → Bool
is_revoked None = false
is_revoked (Some l) = l.revoked

-- nobody stands in the way, and neither the client's own lease nor that of its node was asked for
abbrev pub is_free : Homes → List Lease → List Lease → ℕ → ℕ → Mode → Bool
is_free home cs ns c n mode =
    not (list_any (in_way home ns c n mode) cs) && (not (is_revoked (lease_of cs c)) && not (is_revoked (lease_of ns n)))

-- the mode that a holder has once it is given one: that of its lease where that is stronger
abbrev pub raised_mode : Mode → Option Lease → Mode
raised_mode mode None = mode
raised_mode mode (Some l) = stronger l.mode mode

-- a node's lease that stands against the mode goes at once where none of its clients holds the inode
abbrev pub gives_up : Homes → List Lease → ℕ → Mode → Lease → Bool
gives_up home cs n mode k = is_rival n mode k && not (is_busy home cs k.holder)

-- the leases of clients once the client is granted its mode
unfoldable pub clients_granted : ℕ → Mode → List Lease → List Lease
clients_granted c mode cs = with_lease (new_lease c (raised_mode mode (lease_of cs c))) cs

-- the leases of nodes once a client of node n is granted its mode: nodes with no client that holds the inode gave up what
-- stood against it
unfoldable pub nodes_granted : Homes → List Lease → ℕ → Mode → List Lease → List Lease
nodes_granted home cs n mode ns = with_lease (new_lease n (raised_mode mode (lease_of ns n))) (leave_out (gives_up home cs n mode) ns)

-- the leases of nodes once a client of node n waits for its mode: nodes with no client that holds the inode gave up what stood
-- against it, and the others are asked
abbrev pub rivals_asked : Homes → List Lease → ℕ → Mode → List Lease → List Lease
rivals_asked home cs n mode ns = revoke (is_rival n mode) (leave_out (gives_up home cs n mode) ns)

-- where no other node stands against the mode then, the manager raises the lease of the node in the same step, though its own
-- clients still stand in the way: so no other node overtakes the one that waits
unfoldable pub nodes_asked : Homes → List Lease → ℕ → Mode → List Lease → List Lease
nodes_asked home cs n mode ns = raise_unopposed n mode (rivals_asked home cs n mode ns)

-- the leases of nodes once a client of node n let go, with these clients' leases left: the asked lease of its node goes
-- with the last client below
abbrev pub nodes_released : Homes → List Lease → ℕ → List Lease → List Lease
nodes_released home cs n ns = cond (is_revoked (lease_of ns n) && not (is_busy home cs n)) (without_holder n ns) ns
