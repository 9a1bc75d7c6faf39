-- What stays of the state where the values of clients change, and the nodes of their own logs don't.
use Rattle.assise_machine_state.proofs.Common.{◌≡◌, ℕ, not, List, length, refl, ap, arith, durability_of, EntryValue, Asked, TwoLevels, SameClients, SameLogs}
use Rattle.assise_machine_state.proofs.Common.{SameNodes, HoldsAsLeased, OtherAreasStay, kept_numbered, after_leases, after_letting_go, ClientValue, client_in}
use Rattle.assise_machine_state.proofs.Common.{with_client, own_seen, world_of, ShapeInvariant, StateValue, leases_of}
use Rattle.assise_machine_state.proofs.Shared.ItemSeen.{client_same, length-with}
use Rattle.assise_machine_state.proofs.Shared.ShapeKept.{shaped_as, still_marked}
use Rattle.assise_machine_state.proofs.SameObserved.{clients_as, goals_as, logs_as, node_as}

-- other values of clients, and maybe other leases, other answers and another history
abbrev pub changed : StateValue → List ClientValue → TwoLevels → List Asked → List EntryValue → StateValue
changed s cs levels cuts h = record s { clients = cs; levels = levels; cuts = cuts; history = h }

-- each client's own log is where it was, and its counts are what they were
pub record Remain (old new : List ClientValue) : Type 0 where
  pub count : length new ≡ length old
  pub home : (d : ℕ) → (client_in new d).home ≡ (client_in old d).home
  pub failed : (d : ℕ) → (client_in new d).failed ≡ (client_in old d).failed
  pub next : (d : ℕ) → (client_in new d).next ≡ (client_in old d).next
  pub made : (d : ℕ) → (client_in new d).made ≡ (client_in old d).made
  pub durability : (d : ℕ) → (client_in new d).durability ≡ (client_in old d).durability

-- of one client that changes it is to be shown
pub one_remains : (cs : List ClientValue) (c : ℕ) (x : ClientValue) → x.home ≡ (client_in cs c).home → x.failed ≡ (client_in cs c).failed →
    x.next ≡ (client_in cs c).next → x.made ≡ (client_in cs c).made → x.durability ≡ (client_in cs c).durability → Remain cs (with_client cs c x)
one_remains cs c x home failed next made durability = record {
  count = length-with cs c x;
  home = client_same (λ y. y.home) cs c x home;
  failed = client_same (λ y. y.failed) cs c x failed;
  next = client_same (λ y. y.next) cs c x next;
  made = client_same (λ y. y.made) cs c x made;
  durability = client_same (λ y. y.durability) cs c x durability;
}

-- nodes stay
pub areas_stay : (s s' : StateValue) → s'.nodes ≡ s.nodes → OtherAreasStay (world_of s) (world_of s')
unfolding world_of
areas_stay s s' same k i away = rw same refl

-- leases alone
pub leases_held : (s : StateValue) (levels : TwoLevels) → HoldsAsLeased (world_of s) (world_of (after_leases s levels)) (leases_of (after_leases s levels))
unfolding world_of own_seen
leases_held s levels = grind (arith, logs_as, clients_as, goals_as, node_as)

-- leases and answers alone
pub letting_go_shaped : (s : StateValue) (levels : TwoLevels) (cuts : List Asked) → ShapeInvariant s → ShapeInvariant (after_letting_go s levels cuts)
unfolding own_seen
letting_go_shaped s levels cuts shape = grind arith

pub leases_shaped : (s : StateValue) (levels : TwoLevels) → ShapeInvariant s → ShapeInvariant (after_leases s levels)
leases_shaped s levels = letting_go_shaped s levels s.cuts

module _ (s : StateValue) (cs : List ClientValue) (levels : TwoLevels) (cuts : List Asked) (h : List EntryValue) where
  pub nodes_stay : SameNodes (world_of s) (world_of (changed s cs levels cuts h))
  unfolding world_of
  nodes_stay = record { full = refl; same = λ n f. node_as s (changed s cs levels cuts h) n (λ i. refl) (λ d. refl) }

  module _ (remain : Remain s.clients cs) where
    own_stays : (d : ℕ) → own_seen (changed s cs levels cuts h) d ≡ own_seen s d
    unfolding own_seen
    own_stays d = rw (remain.home d, remain.failed d) refl

    pub logs_stay : kept_numbered h ≡ kept_numbered s.history → SameLogs (world_of s) (world_of (changed s cs levels cuts h))
    unfolding world_of
    logs_stay calls = grind (arith, own_stays)

    pub clients_stay : ((d : ℕ) → (client_in cs d).crashed ≡ (client_in s.clients d).crashed) → SameClients (world_of s) (world_of (changed s cs levels cuts h))
    unfolding world_of
    clients_stay same = record { clients = remain.count; home = remain.home; lives = λ d. ap not (remain.failed d); crashed = same }

    pub still_shaped : ((d : ℕ) → durability_of d h ≡ durability_of d s.history) → ShapeInvariant s → ShapeInvariant (changed s cs levels cuts h)
    still_shaped opened shape = grind (arith, shaped_as, still_marked, own_stays)
