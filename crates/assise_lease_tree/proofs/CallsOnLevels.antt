-- What a call makes of the two levels, from what it makes of one inode.
use Rattle.assise_lease_tree.proofs.Common.{Result, Ok, Err, IsOk, OnOk, OnErr, ◌≡◌, ◌≢◌, ℕ, true, false, List, Option, Some, None, is_some, sym, refl, ap, ◌∙◌}
use Rattle.assise_lease_tree.proofs.Common.{dite, ℕ_discrete, Mode, Lease, Becomes, SameLeases, Among, lease_of, serves, new_lease, revoke, lives, is_node}
use Rattle.assise_lease_tree.proofs.Common.{in_way, raised_mode, clients_granted, nodes_granted, nodes_asked, levels_of, TwoLevels, LevelsInvariant}
use Rattle.assise_lease_tree.proofs.Common.{is_free_for, IsGranted, IsAskedFor, arith}
use Rattle.assise_lease_tree.specs.declared.lease_tree.LeaseTreeOf.{LeaseTreeOf}
use Rattle.assise_lease_tree.proofs.Shared.ClientHomes.{carrier, strong_raised, lease_among, lease_found, one_home, lives_at}
use Rattle.assise_lease_tree.proofs.Shared.Lookups.{with_own, with_other}
use Rattle.assise_lease_tree.proofs.AskSound.{some_revoked}
use Rattle.assise_lease_tree.proofs.Shared.Steps.{granted_lawful}

abbrev LeasesOf : Type 0
LeasesOf = ℕ → List Lease

-- what a tree holds is lawful
pub tree_lawful : {C : Type 0} (t : LeaseTreeOf C) → LevelsInvariant (levels_of t)
tree_lawful t = record { clients_compatible = t.compatible_clients; nodes_compatible = t.compatible_nodes; under = t.under; asked = t.asked_below }

is_some_home : (home : Option ℕ) (n : ℕ) → is_node home n ≡ true → is_some home ≡ true
is_some_home None n e = cc
is_some_home (Some m) n e = refl

has_lease : (o : Option Lease) → is_some o ≡ true → (l : Lease) × (o ≡ Some l)
has_lease None e = cc
has_lease (Some l) e = (l, refl)

-- where a client has a lease of the inode, its node has one
pub node_has : (t : TwoLevels) → LevelsInvariant t → (c n inode : ℕ) → t.home c ≡ Some n → is_some (lease_of (t.clients inode) c) ≡ true →
    is_some (lease_of (t.nodes inode) n) ≡ true
node_has t lawful c n inode at_home e =
    let own = has_lease (lease_of (t.clients inode) c) e in
    let is = lease_among (t.clients inode) c own.0 own.1 in
    let k = carrier t.home (t.nodes inode) own.0 (lawful.under inode own.0 is.0) in
    let here : k.0.holder ≡ n = one_home t.home c k.0.holder n (ap (λ z. lives t.home z k.0.holder) (sym is.1) ∙ k.2) (lives_at t.home c n at_home) in
    ap is_some (lease_found (t.nodes inode) (lawful.nodes_compatible inode) n k.0 k.1 here)

pub on_ok : {T E : Type 0} (r : Result T E) (P : Type 0) → IsOk r → OnOk r P → P
on_ok (Ok x) P i p = p
on_ok (Err e) P i p = cc

pub known_after : {T : Type 0} (now later : ℕ → Option T) {U : Type 0} (known later_known : ℕ → Option U) (c : ℕ) (x : T) (y : U)
    → ((d : ℕ) → is_some (now d) ≡ is_some (known d))
    → later c ≡ Some x → ((d : ℕ) → d ≢ c → later d ≡ now d) → later_known c ≡ Some y → ((d : ℕ) → d ≢ c → later_known d ≡ known d)
    → (d : ℕ) → is_some (later d) ≡ is_some (later_known d)
known_after now later known later_known c x y same has rest has_known rest_known d = grind arith

-- a client's lease is of one that has a node
pub has_home : (t : TwoLevels) → LevelsInvariant t → (inode : ℕ) (l : Lease) → Among (t.clients inode) l → is_some (t.home l.holder) ≡ true
has_home t lawful inode l among = grind (arith, carrier)

module _ (old : TwoLevels) (lawful : LevelsInvariant old) (c n inode : ℕ) (mode : Mode) (clients nodes : LeasesOf) where
  abbrev cs : List Lease
  cs = old.clients inode

  abbrev ns : List Lease
  ns = old.nodes inode

  -- both levels then
  abbrev then_levels : TwoLevels
  then_levels = record { home = old.home; clients = clients; nodes = nodes }

  module _ (clients_are : Becomes old.clients clients inode (clients_granted c mode cs))
      (nodes_are : Becomes old.nodes nodes inode (nodes_granted old.home cs n mode ns)) where
    own_now : lease_of (clients inode) c ≡ Some (new_lease c (raised_mode mode (lease_of cs c)))
    unfolding clients_granted
    own_now = ap (λ ls. lease_of ls c) clients_are.here ∙ with_own (new_lease c (raised_mode mode (lease_of cs c))) cs

    others_here : (d : ℕ) → d ≢ c → lease_of (clients inode) d ≡ lease_of cs d
    unfolding clients_granted
    others_here d other = ap (λ ls. lease_of ls d) clients_are.here ∙ with_other (new_lease c (raised_mode mode (lease_of cs c))) cs d other

    pub is_granted : IsGranted old then_levels c n inode mode
    is_granted = record {
      home = λ d. refl;
      clients = clients_are;
      nodes = nodes_are;
      held = ap (λ o. serves o mode) own_now ∙ strong_raised mode (lease_of cs c);
      others = λ i d other. dite (ℕ_discrete i inode)
          (λ e. ap (λ j. lease_of (clients j) d) e ∙ others_here d other ∙ sym (ap (λ j. lease_of (old.clients j) d) e))
          (λ ne. ap (λ ls. lease_of ls d) (clients_are.elsewhere i ne));
    }

  pub is_asked_for : old.home c ≡ Some n → is_free_for old c n inode mode ≡ false → Becomes old.clients clients inode (revoke (in_way old.home ns c n mode) cs)
      → Becomes old.nodes nodes inode (nodes_asked old.home cs n mode ns) → IsAskedFor old then_levels c n inode mode
  is_asked_for at_home blocked clients_are nodes_are = grind (arith, some_revoked)

-- what a grant leaves is lawful, whether there was room or not
pub grant_keeps : {T E : Type 0} (r : Result T E) (old : TwoLevels) → LevelsInvariant old → (c n inode : ℕ) (mode : Mode) (clients nodes : LeasesOf) →
    old.home c ≡ Some n → is_free_for old c n inode mode ≡ true
    → OnOk r (Becomes old.clients clients inode (clients_granted c mode (old.clients inode))) →
    OnOk r (Becomes old.nodes nodes inode (nodes_granted old.home (old.clients inode) n mode (old.nodes inode)))
    → OnErr r (SameLeases old.clients clients) → OnErr r (SameLeases old.nodes nodes) →
    LevelsInvariant (record { home = old.home; clients = clients; nodes = nodes })
grant_keeps (Ok x) old lawful c n inode mode clients nodes at_home free granted_c granted_n same_c same_n =
    granted_lawful old lawful (record { home = old.home; clients = clients; nodes = nodes }) c n inode mode at_home free
    (is_granted old lawful c n inode mode clients nodes granted_c granted_n)
grant_keeps (Err e) old lawful c n inode mode clients nodes at_home free granted_c granted_n same_c same_n = grind arith
