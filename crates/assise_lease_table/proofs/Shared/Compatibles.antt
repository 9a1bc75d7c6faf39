-- Which changes keep leases compatible.
use Rattle.assise_lease_table.proofs.Common.{◌≡◌, ◌≢◌, ℕ, ◌==◌, Bool, true, false, not, ◌&&◌, List, [], ◌∷◌, ◌++◌, inl, inr, filter, map, sym, refl, ap, ◌∙◌}
use Rattle.assise_lease_table.proofs.Common.{ne_eqb, list_all, list_any, cond_both, and_parts, and_from, and_left, eqb-true, Mode, Read, Write, Lease}
use Rattle.assise_lease_table.proofs.Common.{is_own_unasked, is_rival, Among, stand_together, compatible, IsFree, raise, raise_unopposed, raised_if, with_lease}
use Rattle.assise_lease_table.proofs.Common.{arith}
use Rattle.assise_lease_table.specs.Modes.{against, stronger}
use Rattle.assise_lease_table.proofs.Shared.Elements.{none_among, all_among, among_all, among_filter, among_map, among_push}
pub use Rattle.std.proofs.lemmas.Bool.{eqb-false as differ}

pub against_swap : (a b : Mode) → against a b ≡ against b a
against_swap Read Read = refl
against_swap Read Write = refl
against_swap Write Read = refl
against_swap Write Write = refl

from_together : (a b : Lease) → stand_together a b ≡ true → (a.holder ≢ b.holder) × (against a.mode b.mode ≡ false)
from_together a b e = grind arith

to_together : (a b : Lease) → a.holder ≢ b.holder → against a.mode b.mode ≡ false → stand_together a b ≡ true
to_together a b n e = grind arith

-- two leases of one holder are one
pub one_lease : (ls : List Lease) → compatible ls ≡ true → (a b : Lease) → Among ls a → Among ls b → a.holder ≡ b.holder → a ≡ b
one_lease [] c a b in_a in_b same = absurd in_a
one_lease (l ∷ ls) c a b in_a in_b same =
    let parts = and_parts (list_all (stand_together l) ls) (compatible ls) c in
    elim in_a [
      | inl head_a ↦ grind (arith, all_among)
      | inr rest_a ↦ elim in_b [
        | inl head_b ↦ absurd ((from_together l a (all_among (stand_together l) ls parts.0 a rest_a)).0 (sym (ap (λ (z : Lease). z.holder) head_b) ∙ sym same))
        | inr rest_b ↦ one_lease ls parts.1 a b rest_a rest_b same
      ]
    ]

-- leases of two holders are not against each other
pub not_against : (ls : List Lease) → compatible ls ≡ true → (a b : Lease) → Among ls a → Among ls b → a.holder ≢ b.holder → against a.mode b.mode ≡ false
not_against [] c a b in_a in_b other = absurd in_a
not_against (l ∷ ls) c a b in_a in_b other = grind (arith, all_among)

pub filter_compatible : (p : Lease → Bool) (ls : List Lease) → compatible ls ≡ true → compatible (filter p ls) ≡ true
filter_compatible p [] c = refl
filter_compatible p (l ∷ ls) c =
    let parts = and_parts (list_all (stand_together l) ls) (compatible ls) c in
    let rest = filter_compatible p ls parts.1 in
    let head = among_all (stand_together l) (filter p ls) (λ x a. all_among (stand_together l) ls parts.0 x (among_filter p ls x a).0) in
    cond_both (p l) (l ∷ filter p ls) (filter p ls) (λ ks. compatible ks ≡ true) (λ _. and_from (list_all (stand_together l) (filter p ls)) _ head rest)
    (λ _. rest)

-- a change that keeps holders and modes
module _ (f : Lease → Lease) (keeps : (l : Lease) → ((f l).holder ≡ l.holder) × ((f l).mode ≡ l.mode)) where
  together_same : (a b : Lease) → stand_together (f a) (f b) ≡ stand_together a b
  together_same a b = λ i. not ((keeps a).0 i == (keeps b).0 i) && not (against ((keeps a).1 i) ((keeps b).1 i))

  all_together_same : (l : Lease) (ls : List Lease) → list_all (stand_together (f l)) (map f ls) ≡ list_all (stand_together l) ls
  all_together_same l [] = refl
  all_together_same l (k ∷ ks) = λ i. together_same l k i && all_together_same l ks i

  pub map_compatible : (ls : List Lease) → compatible (map f ls) ≡ compatible ls
  map_compatible [] = refl
  map_compatible (l ∷ ls) = λ i. all_together_same l ls i && map_compatible ls i

pub push_compatible : (ls : List Lease) (x : Lease) → compatible ls ≡ true →
    ((l : Lease) → Among ls l → (l.holder ≢ x.holder) × (against l.mode x.mode ≡ false)) → compatible (ls ++ x ∷ []) ≡ true
push_compatible [] x c h = refl
push_compatible (l ∷ ls) x c h =
    let parts = and_parts (list_all (stand_together l) ls) (compatible ls) c in
    and_from (list_all (stand_together l) (ls ++ x ∷ [])) (compatible (ls ++ x ∷ []))
    (grind (arith, among_all, among_push, all_among))
    (push_compatible ls x parts.1 (λ k a. h k (inr a)))

-- a lease that no other holder's stands against
pub with_compatible : (ls : List Lease) (x : Lease) → compatible ls ≡ true → IsFree ls x.holder x.mode → compatible (with_lease x ls) ≡ true
with_compatible ls x c free = grind (arith, push_compatible, filter_compatible, among_filter)

-- a holder without rivals is free to hold
pub no_rivals : (ls : List Lease) (h : ℕ) (mode : Mode) → list_any (is_rival h mode) ls ≡ false → IsFree ls h mode
no_rivals ls h mode none l a other = grind (arith, none_among)

-- ---- a lease that is raised

pub stronger_against : (o m x : Mode) → against o x ≡ false → against m x ≡ false → against (stronger o m) x ≡ false
stronger_against Read m x a b = b
stronger_against Write m x a b = a

raised_against : (b : Bool) (mode : Mode) (l : Lease) (x : Mode) → against l.mode x ≡ false → (b ≡ true → against mode x ≡ false) →
    against (raised_if b mode l).mode x ≡ false
raised_against true mode l x none free = stronger_against l.mode mode x none (free refl)
raised_against false mode l x none free = none

raised_other : (b : Bool) (mode : Mode) (l : Lease) → b ≡ false → (raised_if b mode l).mode ≡ l.mode
raised_other true mode l is = cc
raised_other false mode l is = refl

module _ (h : ℕ) (mode : Mode) where
  abbrev raised_now : Lease → Lease
  raised_now l = raised_if (is_own_unasked h l) mode l

  own_holder : (l : Lease) → is_own_unasked h l ≡ true → l.holder ≡ h
  own_holder l own = eqb-true l.holder h (and_parts (l.holder == h) (not l.revoked) own).0

  not_own : (l : Lease) → l.holder ≢ h → is_own_unasked h l ≡ false
  not_own l other = and_left (l.holder == h) (not l.revoked) (ne_eqb l.holder h other)

  raised_together : (a b : Lease) → (a.holder ≢ h → against mode a.mode ≡ false) → (b.holder ≢ h → against mode b.mode ≡ false) → stand_together a b ≡ true →
      stand_together (raised_now a) (raised_now b) ≡ true
  raised_together a b free_a free_b e = grind arith

  pub raise_compatible : (ls : List Lease) → compatible ls ≡ true → IsFree ls h mode → compatible (raise h mode ls) ≡ true
  raise_compatible [] c free = refl
  raise_compatible (l ∷ ls) c free =
      let parts = and_parts (list_all (stand_together l) ls) (compatible ls) c in
      and_from (list_all (stand_together (raised_now l)) (raise h mode ls)) (compatible (raise h mode ls))
      (among_all (stand_together (raised_now l)) (raise h mode ls) (search (among_map, all_among, arith) parts 3))
      (raise_compatible ls parts.1 (λ k a other. free k (inr a) other))

  pub raise_unopposed_compatible : (ls : List Lease) → compatible ls ≡ true → compatible (raise_unopposed h mode ls) ≡ true
  raise_unopposed_compatible ls c = grind (arith, raise_compatible, no_rivals)
