-- What is asked for keeps both levels sound.
use Rattle.assise_lease_tree.proofs.Common.{◌≡◌, ℕ, ◌&&◌, ◌||◌, Bool, true, false, cond, not, List, [], ◌∷◌, Option, Some, None, ◌⊎◌, inl, inr, sym, refl, ap}
use Rattle.assise_lease_tree.proofs.Common.{subst, list_any, cond_both, and_from, not_from_false, Mode, Lease, strong, Among, lease_of, is_own_unasked}
use Rattle.assise_lease_tree.proofs.Common.{is_rival, revoked_if, revoke, leave_out, raise, raise_unopposed, raised_if, any_among, among_any, filter_among}
use Rattle.assise_lease_tree.proofs.Common.{among_filter, map_among, among_map, raise_unopposed_compatible, compatible, leave_out_fits, revoke_fits, Homes}
use Rattle.assise_lease_tree.proofs.Common.{lives, is_busy, carries, Under, AskedBelow, in_way, is_revoked, is_free, gives_up, nodes_asked, rivals_asked, arith}
use Rattle.assise_lease_tree.proofs.Shared.ClientHomes.{carrier, not_given_up, lease_among, stronger_left, busy_from, busy_some}

pub cond_right : (b x : Bool) → x ≡ true → cond b true x ≡ true
cond_right true x e = refl
cond_right false x e = e

cond_left : (b x : Bool) → b ≡ true → cond b true x ≡ true
cond_left true x e = refl
cond_left false x e = cc

cond_cases : (b x : Bool) → cond b true x ≡ true → (b ≡ true) ⊎ (x ≡ true)
cond_cases true x e = inl refl
cond_cases false x e = inr e

-- leases that are revoked are held for the same nodes
pub busy_same : (home : Homes) (choice : Lease → Bool) (cs : List Lease) (n : ℕ) → is_busy home (revoke choice cs) n ≡ is_busy home cs n
busy_same home choice [] n = refl
busy_same home choice (l ∷ ls) n = ap (λ b. lives home l.holder n || b) (busy_same home choice ls n)

-- some client holds the inode revoked
abbrev pub SomeRevoked : List Lease → Type 0
SomeRevoked ls = list_any (λ l. l.revoked) ls ≡ true

-- ---- a node's lease that is raised

module _ (home : Homes) (cs : List Lease) (n : ℕ) (mode : Mode) where
  abbrev raised_now : Lease → Lease
  raised_now k = raised_if (is_own_unasked n k) mode k

  -- a lease that is raised carries what it carried
  still_strong : (b : Bool) (k : Lease) (m : Mode) → strong k.mode m ≡ true → strong (raised_if b mode k).mode m ≡ true
  still_strong true k m s = stronger_left k.mode mode m s
  still_strong false k m s = s

  raise_under : (ns : List Lease) → Under home cs ns → Under home cs (raise n mode ns)
  raise_under ns under l a =
      let k = carrier home ns l (under l a) in
      among_any (carries home l) (raise n mode ns) (raised_now k.0) (map_among raised_now ns k.0 k.1)
      (and_from (lives home l.holder k.0.holder) _ k.2 (still_strong (is_own_unasked n k.0) k.0 l.mode k.3))

  raise_below : (ns : List Lease) → AskedBelow home cs ns → AskedBelow home cs (raise n mode ns)
  raise_below ns below k a revoked = grind (arith, among_map)

  raised_under : (ns : List Lease) → Under home cs ns → Under home cs (raise_unopposed n mode ns)
  raised_under ns under = cond_both (list_any (is_rival n mode) ns) ns (raise n mode ns) (Under home cs) (λ _. under) (λ _. raise_under ns under)

  raised_below : (ns : List Lease) → AskedBelow home cs ns → AskedBelow home cs (raise_unopposed n mode ns)
  raised_below ns below = cond_both (list_any (is_rival n mode) ns) ns (raise n mode ns) (AskedBelow home cs) (λ _. below) (λ _. raise_below ns below)

module _ (home : Homes) (cs ns : List Lease) (c n : ℕ) (mode : Mode) (at_home : home c ≡ Some n)
    (under : Under home cs ns) (below : AskedBelow home cs ns) where
  abbrev revoked_now : Lease → Lease
  revoked_now l = revoked_if (in_way home ns c n mode l) l

  abbrev pub clients_asked : List Lease
  clients_asked = revoke (in_way home ns c n mode) cs

  -- what stands in the way is revoked now
  way_revoked : (l : Lease) → in_way home ns c n mode l ≡ true → (revoked_now l).revoked ≡ true
  way_revoked l way = cond_left (in_way home ns c n mode l) l.revoked way

  busy_after : (m : ℕ) → is_busy home cs m ≡ true → is_busy home (revoke (in_way home ns c n mode) cs) m ≡ true
  busy_after m busy =
      let l = busy_some home cs m busy in
      busy_from home (revoke (in_way home ns c n mode) cs) m (revoked_now l.0) (map_among revoked_now cs l.0 l.1) l.2

  rivals_under : Under home (revoke (in_way home ns c n mode) cs) (rivals_asked home cs n mode ns)
  rivals_under l a =
      let was = among_map revoked_now cs l a in
      let k = carrier home ns was.0 (under was.0 was.1) in
      let stays = not_from_false (gives_up home cs n mode k.0) (not_given_up home cs n mode was.0 k.0 was.1 k.2) in
      subst (λ (z : Lease). list_any (carries home z) (rivals_asked home cs n mode ns) ≡ true) (sym was.2)
      (among_any (carries home (revoked_now was.0)) (rivals_asked home cs n mode ns) (revoked_if (is_rival n mode k.0) k.0)
      (map_among (λ z. revoked_if (is_rival n mode z) z) (leave_out (gives_up home cs n mode) ns) k.0
      (filter_among (λ z. not (gives_up home cs n mode z)) ns k.0 k.1 stays))
      (and_from (lives home was.0.holder k.0.holder) (strong k.0.mode was.0.mode) k.2 k.3))

  pub asked_under : Under home (revoke (in_way home ns c n mode) cs) (nodes_asked home cs n mode ns)
  unfolding nodes_asked
  asked_under = raised_under home (revoke (in_way home ns c n mode) cs) n mode (rivals_asked home cs n mode ns) rivals_under

  pub nodes_asked_compatible : compatible ns ≡ true → compatible (nodes_asked home cs n mode ns) ≡ true
  unfolding nodes_asked
  nodes_asked_compatible fits = grind (arith, raise_unopposed_compatible, revoke_fits, leave_out_fits)

  -- a rival of the node stands in the way of all its clients
  rival_in_way : (k : Lease) → Among ns k → is_rival n mode k ≡ true → (l : Lease) → Among cs l → lives home l.holder k.holder ≡ true →
      in_way home ns c n mode l ≡ true
  unfolding in_way
  rival_in_way k in_k rival l in_l there = grind (arith, among_any)

  rivals_below : AskedBelow home (revoke (in_way home ns c n mode) cs) (rivals_asked home cs n mode ns)
  rivals_below k a revoked =
      let was = among_map (λ z. revoked_if (is_rival n mode z) z) (leave_out (gives_up home cs n mode) ns) k a in
      let old = among_filter (λ z. not (gives_up home cs n mode z)) ns was.0 was.1 in
      let goal_at : Lease → Type 0 = λ (z : Lease). (is_busy home (revoke (in_way home ns c n mode) cs) z.holder ≡ true)
      × ((l : Lease) → Among (revoke (in_way home ns c n mode) cs) l → lives home l.holder z.holder ≡ true → l.revoked ≡ true) in
      subst goal_at (sym was.2) (grind (arith, busy_after, among_map, rival_in_way))

  pub asked_asked : AskedBelow home (revoke (in_way home ns c n mode) cs) (nodes_asked home cs n mode ns)
  unfolding nodes_asked
  asked_asked = raised_below home (revoke (in_way home ns c n mode) cs) n mode (rivals_asked home cs n mode ns) rivals_below

  revoked_client : (l : Lease) → Among cs l → (revoked_now l).revoked ≡ true → SomeRevoked (revoke (in_way home ns c n mode) cs)
  revoked_client l a e = among_any (λ (z : Lease). z.revoked) (revoke (in_way home ns c n mode) cs) (revoked_now l) (map_among revoked_now cs l a) e

  own_revoked : (o : Option Lease) → lease_of cs c ≡ o → is_revoked o ≡ true → SomeRevoked (revoke (in_way home ns c n mode) cs)
  own_revoked None is e = cc
  own_revoked (Some l) is e = revoked_client l (lease_among cs c l is).0 (cond_right (in_way home ns c n mode l) l.revoked e)

  node_revoked : (o : Option Lease) → lease_of ns n ≡ o → is_revoked o ≡ true → SomeRevoked (revoke (in_way home ns c n mode) cs)
  node_revoked None is e = cc
  node_revoked (Some k) is e = grind (arith, lease_among ns n k is, busy_some, revoked_client)

  three : (a b d : Bool) → (not a && (not b && not d)) ≡ false → (a ≡ true) ⊎ ((b ≡ true) ⊎ (d ≡ true))
  three true b d e = inl refl
  three false true d e = inr (inl refl)
  three false false true e = inr (inr refl)
  three false false false e = cc

  -- where the mode isn't granted, some client holds the inode revoked
  pub some_revoked : is_free home cs ns c n mode ≡ false → SomeRevoked (revoke (in_way home ns c n mode) cs)
  some_revoked e = grind (arith, any_among, revoked_client, own_revoked, node_revoked)
