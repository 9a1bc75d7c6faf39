-- What is released, revoked or taken in keeps both levels sound.
use Rattle.assise_lease_tree.proofs.Common.{◌≡◌, ◌≢◌, ℕ, ◌==◌, ◌&&◌, Bool, true, false, cond, not, List, Some, None, ◌⊎◌, inl, inr, sym, refl, ap, subst, ◌∙◌}
use Rattle.assise_lease_tree.proofs.Common.{dite, ℕ_discrete, list_any, and_parts, and_from, not-true, not_from_false, ne_eqb, eqb-false, Lease, strong, Among}
use Rattle.assise_lease_tree.proofs.Common.{lease_of, compatible, revoked_if, without_holder, revoke, not_both, any_among, among_any, filter_among}
use Rattle.assise_lease_tree.proofs.Common.{among_filter, map_among, among_map, Homes, is_node, lives, is_busy, carries, Under, AskedBelow, is_revoked}
use Rattle.assise_lease_tree.proofs.Common.{nodes_released}
use Rattle.std.proofs.lemmas.Option.{none-some}
use Rattle.assise_lease_tree.proofs.Shared.ClientHomes.{carrier, home_of, lives_at, one_home, lease_found, busy_from, busy_some}
use Rattle.assise_lease_tree.proofs.AskSound.{cond_right}

in_without : (h : ℕ) (ls : List Lease) (l : Lease) → Among ls l → l.holder ≢ h → Among (without_holder h ls) l
in_without h ls l a other = filter_among (λ (z : Lease). not (z.holder == h)) ls l a (not_from_false (l.holder == h) (ne_eqb l.holder h other))

of_without : (h : ℕ) (ls : List Lease) (l : Lease) → Among (without_holder h ls) l → Among ls l × (l.holder ≢ h)
of_without h ls l a = let was = among_filter (λ (z : Lease). not (z.holder == h)) ls l a in (was.0, eqb-false l.holder h (not-true (l.holder == h) was.1))

module _ (home : Homes) (cs ns : List Lease) (fits_n : compatible ns ≡ true) (under : Under home cs ns) (asked : AskedBelow home cs ns) where
  -- a client lets go
  module _ (c n : ℕ) (at_home : home c ≡ Some n) where
    abbrev left : List Lease
    left = without_holder c cs

    under_left : (ks : List Lease) → ((k : Lease) → Among ns k → (l : Lease) → Among left l → lives home l.holder k.holder ≡ true → Among ks k) →
        Under home left ks
    under_left ks keeps l a =
        let was = of_without c cs l a in
        let k = carrier home ns l (under l was.0) in
        among_any (carries home l) ks k.0 (keeps k.0 k.1 l a k.2) (and_from (lives home l.holder k.0.holder) (strong k.0.mode l.mode) k.2 k.3)

    -- where a node's lease other than the home's was asked, or some client is left below
    asked_left : (k : Lease) → Among ns k → k.revoked ≡ true → ((k.holder ≢ n) ⊎ (is_busy home left k.holder ≡ true))
        → (is_busy home left k.holder ≡ true) × ((l : Lease) → Among left l → lives home l.holder k.holder ≡ true → l.revoked ≡ true)
    asked_left k a revoked which =
        let old = asked k a revoked in
        let l = busy_some home cs k.holder old.0 in (
          elim which [
            | inl away ↦ busy_from home left k.holder l.0
                (in_without c cs l.0 l.1
                (λ same. away (one_home home c k.holder n (ap (λ z. lives home z k.holder) (sym same) ∙ l.2) (lives_at home c n at_home)))) l.2
            | inr busy ↦ busy
          ],
          λ x in_x there. old.1 x (of_without c cs x in_x).0 there,
        )

    and_false : (a b : Bool) → (a && not b) ≡ false → a ≡ true → b ≡ true
    and_false true true e t = refl
    and_false true false e t = cc
    and_false false b e t = cc

    released_at : (gone : Bool) → (is_revoked (lease_of ns n) && not (is_busy home left n)) ≡ gone
        → Under home left (cond gone (without_holder n ns) ns) × AskedBelow home left (cond gone (without_holder n ns) ns)
    released_at true e =
        let idle : is_busy home left n ≡ false = not-true (is_busy home left n) (and_parts (is_revoked (lease_of ns n)) (not (is_busy home left n)) e).1 in (
          under_left (without_holder n ns) (λ k in_k l in_l there. in_without n ns k in_k (λ same.
              not_both (is_busy home left n) (busy_from home left n l in_l (subst (λ z. lives home l.holder z ≡ true) same there)) idle)),
          λ k a revoked. let was = of_without n ns k a in asked_left k was.0 revoked (inl was.1),
        )
    released_at false e = (
      under_left ns (λ k in_k l in_l there. in_k),
      λ k a revoked. asked_left k a revoked (dite (ℕ_discrete k.holder n)
          (λ here. inr (subst (λ z. is_busy home left z ≡ true) (sym here)
          (and_false (is_revoked (lease_of ns n)) (is_busy home left n) e (ap is_revoked (lease_found ns fits_n n k a here) ∙ revoked))))
          (λ away. inl away)),
    )

    pub released_under : Under home left (nodes_released home left n ns)
    released_under = (released_at (is_revoked (lease_of ns n) && not (is_busy home left n)) refl).0

    pub released_asked : AskedBelow home left (nodes_released home left n ns)
    released_asked = (released_at (is_revoked (lease_of ns n) && not (is_busy home left n)) refl).1

  -- the chosen leases of clients are revoked
  module _ (choice : Lease → Bool) where
    abbrev revoked_now : Lease → Lease
    revoked_now l = revoked_if (choice l) l

    pub revoked_under : Under home (revoke choice cs) ns
    revoked_under l a =
        let was = among_map revoked_now cs l a in
        subst (λ (z : Lease). list_any (carries home z) ns ≡ true) (sym was.2) (under was.0 was.1)

    pub revoked_asked : AskedBelow home (revoke choice cs) ns
    revoked_asked k a revoked =
        let old = asked k a revoked in
        let l = busy_some home cs k.holder old.0 in (
          busy_from home (revoke choice cs) k.holder (revoked_now l.0) (map_among revoked_now cs l.0 l.1) l.2,
          λ x in_x there.
              let was = among_map revoked_now cs x in_x in
              ap (λ (z : Lease). z.revoked) was.2
              ∙ cond_right (choice was.0) was.0.revoked (old.1 was.0 was.1 (sym (ap (λ (z : Lease). lives home z.holder k.holder) was.2) ∙ there)),
        )

  -- all leases of a node go, below which nobody holds
  module _ (n : ℕ) (idle : is_busy home cs n ≡ false) where
    pub freed_under : Under home cs (without_holder n ns)
    freed_under l a =
        let k = carrier home ns l (under l a) in
        among_any (carries home l) (without_holder n ns) k.0 (in_without n ns k.0 k.1 (λ same.
        not_both (is_busy home cs n) (busy_from home cs n l a (subst (λ z. lives home l.holder z ≡ true) same k.2)) idle))
        (and_from (lives home l.holder k.0.holder) (strong k.0.mode l.mode) k.2 k.3)

    pub freed_asked : AskedBelow home cs (without_holder n ns)
    freed_asked k a revoked = asked k (of_without n ns k a).0 revoked

  -- a client is taken in that had no node
  module _ (later : Homes) (c : ℕ) (new : home c ≡ None) (rest : (d : ℕ) → d ≢ c → later d ≡ home d) where
    not_new : (l : Lease) → Among cs l → l.holder ≢ c
    not_new l a same =
        let k = carrier home ns l (under l a) in none-some k.0.holder (sym (sym (home_of home l.holder k.0.holder k.2) ∙ ap home same ∙ new))

    same_lives : (l : Lease) → Among cs l → (m : ℕ) → lives later l.holder m ≡ lives home l.holder m
    same_lives l a m = ap (λ o. is_node o m) (rest l.holder (not_new l a))

    pub enrolled_under : Under later cs ns
    enrolled_under l a =
        let k = any_among (carries home l) ns (under l a) in
        among_any (carries later l) ns k.0 k.1 (ap (λ b. b && strong k.0.mode l.mode) (same_lives l a k.0.holder) ∙ k.2)

    pub enrolled_asked : AskedBelow later cs ns
    enrolled_asked k a revoked =
        let old = asked k a revoked in
        let l = busy_some home cs k.holder old.0 in (
          busy_from later cs k.holder l.0 l.1 (same_lives l.0 l.1 k.holder ∙ l.2),
          λ x in_x there. old.1 x in_x (sym (same_lives x in_x k.holder) ∙ there),
        )
