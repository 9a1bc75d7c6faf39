-- What is granted keeps both levels sound.
use Rattle.assise_lease_tree.proofs.Common.{◌≡◌, ◌≢◌, ℕ, ◌==◌, true, false, not, List, Option, Some, None, inl, inr, sym, refl, ap, ◌∙◌, arith, true≢false}
use Rattle.assise_lease_tree.proofs.Common.{dite, ℕ_discrete, list_any, false_from_ne_true, and_from, not-true, eqb-false, Mode, Lease, against, strong, Among}
use Rattle.assise_lease_tree.proofs.Common.{lease_of, compatible, IsFree, is_rival, leave_out, without_holder, new_lease, among_any, none_among, filter_among}
use Rattle.assise_lease_tree.proofs.Common.{among_filter, among_prefix, among_last, among_push, not_against, with_compatible, filter_compatible, Homes, lives}
use Rattle.assise_lease_tree.proofs.Common.{carries, Under, AskedBelow, in_way, raised_mode, gives_up, clients_granted, nodes_granted}
use Rattle.assise_lease_tree.proofs.Shared.ClientHomes.{carrier, not_given_up, lives_at, one_home}
use Rattle.assise_lease_tree.proofs.Shared.ClientHomes.{strong_raised, lease_among, lease_found, busy_from, busy_some}

module _ (home : Homes) (cs ns : List Lease) (c n : ℕ) (mode : Mode) (at_home : home c ≡ Some n)
    (fits_c : compatible cs ≡ true) (fits_n : compatible ns ≡ true) (under : Under home cs ns) (asked : AskedBelow home cs ns)
    (nobody : list_any (in_way home ns c n mode) cs ≡ false) where
  -- a rival of the node that some client is below stands in that client's way
  no_rival : (l : Lease) → Among cs l → (k : Lease) → Among ns k → lives home l.holder k.holder ≡ true → is_rival n mode k ≡ true → l.holder ≢ c → ⊥
  unfolding in_way
  no_rival l in_l k in_k below rival other = grind (arith, among_any)

  not_rival : (l : Lease) → Among cs l → (k : Lease) → Among ns k → lives home l.holder k.holder ≡ true → l.holder ≢ c → k.holder ≢ n →
      against mode k.mode ≡ false
  not_rival l in_l k in_k below other away = grind (arith, no_rival)

  local_not_against : (l : Lease) → Among cs l → lives home l.holder n ≡ true → l.holder ≢ c → against mode l.mode ≡ false
  unfolding in_way
  local_not_against l in_l there other = false_from_ne_true (against mode l.mode) (grind (arith, none_among))

  mode_free : (l : Lease) → Among cs l → l.holder ≢ c → against mode l.mode ≡ false
  mode_free l in_l other = grind (arith, carrier, local_not_against, not_rival)

  raised_free : (ls : List Lease) → compatible ls ≡ true → (h : ℕ) (o : Option Lease) → lease_of ls h ≡ o → (l : Lease) → Among ls l → l.holder ≢ h →
      against mode l.mode ≡ false → against (raised_mode mode o) l.mode ≡ false
  raised_free ls fits h None is l a other free = free
  raised_free ls fits h (Some o) is l a other free = grind (arith, lease_among, not_against)

  pub client_free : IsFree cs c (raised_mode mode (lease_of cs c))
  client_free l a other = raised_free cs fits_c c (lease_of cs c) refl l a other (mode_free l a other)

  pub client_granted_compatible : compatible (clients_granted c mode cs) ≡ true
  unfolding clients_granted
  client_granted_compatible = with_compatible cs (new_lease c (raised_mode mode (lease_of cs c))) fits_c client_free

  elsewhere : (l : Lease) (m : ℕ) → lives home l.holder m ≡ true → m ≢ n → l.holder ≢ c
  elsewhere l m e away same = away (one_home home c m n (ap (λ z. lives home z m) (sym same) ∙ e) (lives_at home c n at_home))

  kept_not_against : (k : Lease) → Among (leave_out (gives_up home cs n mode) ns) k → k.holder ≢ n → against mode k.mode ≡ false
  kept_not_against k a away = grind (arith, among_filter, busy_some, no_rival)

  pub node_free : IsFree (leave_out (gives_up home cs n mode) ns) n (raised_mode mode (lease_of ns n))
  node_free k a away = grind (arith, among_filter, raised_free, kept_not_against)

  pub given_up_compatible : compatible (leave_out (gives_up home cs n mode) ns) ≡ true
  given_up_compatible = filter_compatible (λ z. not (gives_up home cs n mode z)) ns fits_n

  pub node_granted_compatible : compatible (nodes_granted home cs n mode ns) ≡ true
  unfolding nodes_granted
  node_granted_compatible = with_compatible (leave_out (gives_up home cs n mode) ns) (new_lease n (raised_mode mode (lease_of ns n))) given_up_compatible
      node_free

  abbrev new_client : Lease
  new_client = new_lease c (raised_mode mode (lease_of cs c))

  abbrev new_node : Lease
  new_node = new_lease n (raised_mode mode (lease_of ns n))

  abbrev kept_nodes : List Lease
  kept_nodes = without_holder n (leave_out (gives_up home cs n mode) ns)

  raised_strong : (o : Option Lease) → lease_of cs c ≡ o → strong (raised_mode mode (lease_of ns n)) (raised_mode mode o) ≡ true
  raised_strong None is = strong_raised mode (lease_of ns n)
  raised_strong (Some o) is = grind (arith, lease_among cs c o is, carrier, lease_found)

  pub granted_under : Under home (clients_granted c mode cs) (nodes_granted home cs n mode ns)
  unfolding clients_granted nodes_granted
  granted_under l a = elim (among_push (without_holder c cs) new_client l a) [
    | inl before ↦
        let was = among_filter (λ (z : Lease). not (z.holder == c)) cs l before in
        let k = carrier home ns l (under l was.0) in
        dite (ℕ_discrete k.0.holder n)
        (λ here. among_any (carries home l) (nodes_granted home cs n mode ns) new_node (among_last kept_nodes new_node)
        (grind (arith, lease_found)))
        (λ away. among_any (carries home l) (nodes_granted home cs n mode ns) k.0
        (grind (arith, among_prefix, filter_among, not_given_up))
        (and_from (lives home l.holder k.0.holder) (strong k.0.mode l.mode) k.2 k.3))
    | inr last ↦ among_any (carries home l) (nodes_granted home cs n mode ns) new_node (among_last kept_nodes new_node)
        (grind (arith, raised_strong))
  ]

  pub granted_asked : AskedBelow home (clients_granted c mode cs) (nodes_granted home cs n mode ns)
  unfolding clients_granted nodes_granted
  granted_asked k a revoked = elim (among_push kept_nodes new_node k a) [
    | inl before ↦
        let was = among_filter (λ (z : Lease). not (z.holder == n)) (leave_out (gives_up home cs n mode) ns) k before in
        let away : k.holder ≢ n = eqb-false k.holder n (not-true (k.holder == n) was.1) in
        let old = asked k (among_filter (λ z. not (gives_up home cs n mode z)) ns k was.0).0 revoked in
        let l = busy_some home cs k.holder old.0 in (
          busy_from home (clients_granted c mode cs) k.holder l.0
              (grind (arith, among_prefix, filter_among))
              l.2,
          λ x in_x below. elim (among_push (without_holder c cs) new_client x in_x) [
            | inl old_x ↦ old.1 x (among_filter (λ (z : Lease). not (z.holder == c)) cs x old_x).0 below
            | inr new_x ↦ absurd (elsewhere x k.holder below away (ap (λ (z : Lease). z.holder) new_x))
          ],
        )
    | inr last ↦ absurd (true≢false (sym revoked ∙ ap (λ (z : Lease). z.revoked) last))
  ]
