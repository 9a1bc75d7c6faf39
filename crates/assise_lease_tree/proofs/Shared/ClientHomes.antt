-- Clients, their nodes and modes.
use Rattle.assise_lease_tree.proofs.Common.{◌≡◌, ℕ, ◌==◌, Bool, true, false, cond, List, [], ◌∷◌, Option, Some, None, ◌⊎◌, inl, inr, sym, refl, ap, ◌∙◌, eq-eqb}
use Rattle.assise_lease_tree.proofs.Common.{list_any, eqb-true, Mode, Lease, against, strong, stronger, Among, lease_of, compatible, not_both, any_among}
use Rattle.assise_lease_tree.proofs.Common.{among_any, one_lease, Homes, is_node, lives, raised_mode, is_busy, carries, gives_up, arith}
use Rattle.assise_names.specs.declared.mode.Mode.TheVariants.{Read, Write}

node_of : (o : Option ℕ) (n : ℕ) → is_node o n ≡ true → o ≡ Some n
node_of None n e = cc
node_of (Some m) n e = ap (λ z. Some z) (eqb-true m n e)

pub home_of : (home : Homes) (c n : ℕ) → lives home c n ≡ true → home c ≡ Some n
home_of home c n e = node_of (home c) n e

pub lives_at : (home : Homes) (c n : ℕ) → home c ≡ Some n → lives home c n ≡ true
lives_at home c n e = ap (λ o. is_node o n) e ∙ eq-eqb n n refl

some_same : (a b : ℕ) → Some a ≡ Some b → a ≡ b
some_same a b e = cc

pub one_home : (home : Homes) (c n m : ℕ) → lives home c n ≡ true → lives home c m ≡ true → n ≡ m
one_home home c n m e f = some_same n m (sym (home_of home c n e) ∙ home_of home c m f)

-- ---- modes

pub weaker_against : (m k l : Mode) → strong k l ≡ true → against m k ≡ false → against m l ≡ false
weaker_against Read Read Read s a = refl
weaker_against Read Read Write s a = cc
weaker_against Read Write l s a = cc
weaker_against Write k l s a = cc

pub stronger_left : (o m x : Mode) → strong o x ≡ true → strong (stronger o m) x ≡ true
stronger_left Write m x s = refl
stronger_left Read Write x s = refl
stronger_left Read Read x s = s

pub stronger_right : (o m : Mode) → strong (stronger o m) m ≡ true
stronger_right Write m = refl
stronger_right Read Read = refl
stronger_right Read Write = refl

pub strong_itself : (m : Mode) → strong m m ≡ true
strong_itself Read = refl
strong_itself Write = refl

pub stronger_both : (k o m : Mode) → strong k o ≡ true → strong (stronger k m) (stronger o m) ≡ true
stronger_both Write o m s = refl
stronger_both Read Read m s = strong_itself m
stronger_both Read Write m s = cc

pub strong_raised : (m : Mode) (o : Option Lease) → strong (raised_mode m o) m ≡ true
strong_raised m None = strong_itself m
strong_raised m (Some l) = stronger_right l.mode m

-- ---- the lease that a look-up finds

found_in : (b : Bool) (k l : Lease) (o : Option Lease) → cond b (Some k) o ≡ Some l → ((b ≡ true) × (k ≡ l)) ⊎ (o ≡ Some l)
found_in true k l o e = inl (refl, cc)
found_in false k l o e = inr e

pub lease_among : (ls : List Lease) (h : ℕ) (l : Lease) → lease_of ls h ≡ Some l → Among ls l × (l.holder ≡ h)
lease_among [] h l e = cc
lease_among (k ∷ ks) h l e = elim (found_in (k.holder == h) k l (lease_of ks h) e) [
  | inl here ↦ (inl (sym here.1), ap (λ (z : Lease). z.holder) (sym here.1) ∙ eqb-true k.holder h here.0)
  | inr rest ↦ let found = lease_among ks h l rest in (inr found.0, found.1)
]

found_or_not : (b : Bool) (k : Lease) (o : Option Lease) → ((b ≡ true) × (cond b (Some k) o ≡ Some k)) ⊎ ((b ≡ false) × (cond b (Some k) o ≡ o))
found_or_not true k o = inl (refl, refl)
found_or_not false k o = inr (refl, refl)

some_found : (ls : List Lease) (h : ℕ) (l : Lease) → Among ls l → l.holder ≡ h → (k : Lease) × (lease_of ls h ≡ Some k)
some_found [] h l a e = absurd a
some_found (k ∷ ks) h l a e = elim (found_or_not (k.holder == h) k (lease_of ks h)) [
  | inl here ↦ (k, here.1)
  | inr passed ↦ elim a [
    | inl same ↦ not_both (k.holder == h) (eq-eqb k.holder h (sym (ap (λ (z : Lease). z.holder) same) ∙ e)) passed.0
    | inr rest ↦ let found = some_found ks h l rest e in (found.0, passed.1 ∙ found.1)
  ]
]

-- of compatible leases a look-up finds the holder's one
pub lease_found : (ls : List Lease) → compatible ls ≡ true → (h : ℕ) (l : Lease) → Among ls l → l.holder ≡ h → lease_of ls h ≡ Some l
lease_found ls c h l a e =
    let found = some_found ls h l a e in
    let is = lease_among ls h found.0 found.1 in
    found.1 ∙ ap (λ z. Some z) (one_lease ls c found.0 l is.0 a (is.1 ∙ sym e))

pub busy_from : (home : Homes) (cs : List Lease) (n : ℕ) (l : Lease) → Among cs l → lives home l.holder n ≡ true → is_busy home cs n ≡ true
busy_from home cs n l a e = among_any (λ k. lives home k.holder n) cs l a e

pub busy_some : (home : Homes) (cs : List Lease) (n : ℕ) → is_busy home cs n ≡ true → (l : Lease) × Among cs l × (lives home l.holder n ≡ true)
busy_some home cs n e = any_among (λ k. lives home k.holder n) cs e

-- the node's lease that carries a client's
pub carrier : (home : Homes) (ns : List Lease) (l : Lease) → list_any (carries home l) ns ≡ true
    → (k : Lease) × Among ns k × (lives home l.holder k.holder ≡ true) × (strong k.mode l.mode ≡ true)
carrier home ns l carried = grind (arith, any_among)

-- no node gives up a lease below which a client is
pub not_given_up : (home : Homes) (cs : List Lease) (n : ℕ) (mode : Mode) (l k : Lease) → Among cs l → lives home l.holder k.holder ≡ true
    → gives_up home cs n mode k ≡ false
not_given_up home cs n mode l k a there = grind (arith, busy_from)
