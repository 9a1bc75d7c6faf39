-- The entries that slots have, and the map that they make, where one slot changes.
use Rattle.assise_inode_table.proofs.Common.{◌≡◌, ℕ, ◌+◌, suc, List, [], ◌∷◌, ◌++◌, length, Option, Some, None, cond, Bool, true, false, refl, sym, ap, subst}
use Rattle.assise_inode_table.proofs.Common.{◌∙◌, arith, Ordering, Less, length-append, AllByRecursion, IsStrictlySortedBy, keys_of, lookup, is_at, option_or}
use Rattle.assise_inode_table.proofs.Common.{IsTotalOrder, tied_itself, IsAntisymmetric, map-append, flat_map-append, Slot, live_entry, live}
use Rattle.std.proofs.Common.{is_eq}
use Rattle.std.specs.FinMap as map
use Rattle.assise_inode_table.proofs.Shared.MapView.{get-view, insert-view, remove-view, keys-view, length-keys}
use Rattle.assise_inode_table.proofs.KeyOrder.{all_weaker, below_next, above_head, sorted_right, sorted_between}

pub live-append : (xs ys : List Slot) → live (xs ++ ys) ≡ live xs ++ live ys
live-append xs ys = flat_map-append (λ s. live_entry s.0 s.1) xs ys

pub keys-append : {X : Type 0} (xs ys : List (List ℕ × X)) → keys_of (xs ++ ys) ≡ keys_of xs ++ keys_of ys
keys-append xs ys = map-append (λ e. e.0) xs ys

pub live_all : (P : List ℕ → Type 0) (slots : List Slot) → AllByRecursion P (keys_of slots) → AllByRecursion P (keys_of (live slots))
live_all P [] h = tt
live_all P ((name, None) ∷ slots) h = live_all P slots h.1
live_all P ((name, Some inode) ∷ slots) h = (h.0, live_all P slots h.1)

pub live_sorted : (R : List ℕ → List ℕ → Ordering) (slots : List Slot) → IsStrictlySortedBy R (keys_of slots) → IsStrictlySortedBy R (keys_of (live slots))
unfolding IsStrictlySortedBy
live_sorted R [] s = tt
live_sorted R ((name, None) ∷ slots) s = live_sorted R slots s.1
live_sorted R ((name, Some inode) ∷ slots) s = (live_all (λ y. R name y ≡ Less) slots s.0, live_sorted R slots s.1)

-- ---- look-ups
pub or_cond : {X : Type 0} (b : Bool) (x : X) (o c : Option X) → option_or (cond b (Some x) o) c ≡ cond b (Some x) (option_or o c)
or_cond true x o c = refl
or_cond false x o c = refl

pub lookup-append : {K X : Type 0} (t : K → Bool) (es fs : List (K × X)) → lookup t (es ++ fs) ≡ option_or (lookup t es) (lookup t fs)
lookup-append t [] fs = refl
lookup-append t (e ∷ es) fs = ap (cond (t e.0) (Some e.1)) (lookup-append t es fs) ∙ sym (or_cond (t e.0) e.1 (lookup t es) (lookup t fs))

pub or_none : {X : Type 0} (x : Option X) → option_or x None ≡ x
or_none None = refl
or_none (Some x) = refl

lookup_middle : {K X : Type 0} (t : K → Bool) (xs ys zs : List (K × X)) → lookup t (xs ++ (ys ++ zs)) ≡ option_or (lookup t xs)
    (option_or (lookup t ys) (lookup t zs))
lookup_middle t xs ys zs = lookup-append t xs (ys ++ zs) ∙ ap (option_or (lookup t xs)) (lookup-append t ys zs)

-- slots before and behind a name
pub record Parts (R : List ℕ → List ℕ → Ordering) (name : List ℕ) (xs zs : List Slot) : Type 0 where
  pub smaller : AllByRecursion (λ key. R key name ≡ Less) (keys_of xs)
  pub greater : AllByRecursion (λ key. R name key ≡ Less) (keys_of zs)

module _ {R : List ℕ → List ℕ → Ordering} (o : IsTotalOrder R) (same : IsAntisymmetric R) where
  nowhere : (k : List ℕ) (es : List (List ℕ × ℕ)) → AllByRecursion (λ y. is_at (R k) y ≡ false) (keys_of es) → lookup (is_at (R k)) es ≡ None
  nowhere k [] h = refl
  nowhere k (e ∷ es) h = ap (λ b. cond b (Some e.1) (lookup (is_at (R k)) es)) h.0 ∙ nowhere k es h.1

  none_before : (k : List ℕ) (xs zs : List Slot) → Parts R k xs zs → lookup (is_at (R k)) (live xs) ≡ None
  none_before k xs zs p = grind (arith, nowhere, live_all, all_weaker)

  none_behind : (k : List ℕ) (xs zs : List Slot) → Parts R k xs zs → lookup (is_at (R k)) (live zs) ≡ None
  none_behind k xs zs p = grind (arith, nowhere, live_all, all_weaker)

  here : (k : List ℕ) (link : Option ℕ) → lookup (is_at (R k)) (live_entry k link) ≡ link
  here k None = refl
  here k (Some inode) = ap (λ b. cond b (Some inode) None) (ap is_eq (tied_itself o k))

  elsewhere : (q k : List ℕ) (link : Option ℕ) → is_at (R q) k ≡ false → lookup (is_at (R q)) (live_entry k link) ≡ None
  elsewhere q k None h = refl
  elsewhere q k (Some inode) h = ap (λ b. cond b (Some inode) None) h

  found : (k : List ℕ) (link : Option ℕ) (xs zs : List Slot) → Parts R k xs zs → lookup (is_at (R k)) (live xs ++ (live_entry k link ++ live zs)) ≡ link
  found k link xs zs p = grind (arith, lookup_middle, none_before, none_behind)

  other : (q k : List ℕ) (link : Option ℕ) (xs zs : List Slot) → is_at (R q) k ≡ false
      → lookup (is_at (R q)) (live xs ++ (live_entry k link ++ live zs)) ≡ option_or (lookup (is_at (R q)) (live xs)) (lookup (is_at (R q)) (live zs))
  other q k link xs zs h = grind (arith, lookup_middle)

  changed : (k : List ℕ) (old new : Option ℕ) (xs zs : List Slot) → Parts R k xs zs → (q : List ℕ)
      → lookup (is_at (R q)) (live xs ++ (live_entry k new ++ live zs)) ≡ cond (is_at (R k) q) new
      (lookup (is_at (R q)) (live xs ++ (live_entry k old ++ live zs)))
  changed k old new xs zs p q = grind (arith, found, other)

  at_slot : (k : List ℕ) (link : Option ℕ) (xs zs : List Slot) → live (xs ++ (k, link) ∷ zs) ≡ live xs ++ (live_entry k link ++ live zs)
  at_slot k link xs zs = live-append xs ((k, link) ∷ zs)

  -- what the map has at a slot's name, and at one in a gap
  pub slot_got : (k : List ℕ) (link : Option ℕ) (xs zs : List Slot) → Parts R k xs zs → map.get (map.from_entries {R = R} (live (xs ++ (k, link) ∷ zs))) k
      ≡ link
  slot_got k link xs zs p = get-view o (live (xs ++ (k, link) ∷ zs)) k ∙ ap (lookup (is_at (R k))) (at_slot k link xs zs) ∙ found k link xs zs p

  pub gap_got : (k : List ℕ) (xs zs : List Slot) → Parts R k xs zs → map.get (map.from_entries {R = R} (live (xs ++ zs))) k ≡ None
  gap_got k xs zs p = get-view o (live (xs ++ zs)) k ∙ ap (lookup (is_at (R k))) (live-append xs zs) ∙ found k None xs zs p

  -- a slot that gets a link, and a new one in a gap
  pub slot_linked : (k : List ℕ) (old : Option ℕ) (v : ℕ) (xs zs : List Slot) → Parts R k xs zs
      → map.from_entries {R = R} (live (xs ++ (k, Some v) ∷ zs)) ≡ map.insert (map.from_entries (live (xs ++ (k, old) ∷ zs))) k v
  slot_linked k old v xs zs p = grind (arith, at_slot, insert-view, changed)

  pub gap_linked : (k : List ℕ) (v : ℕ) (xs zs : List Slot) → Parts R k xs zs
      → map.from_entries {R = R} (live (xs ++ (k, Some v) ∷ zs)) ≡ map.insert (map.from_entries (live (xs ++ zs))) k v
  gap_linked k v xs zs p =
      ap (map.from_entries {R = R}) (at_slot k (Some v) xs zs)
      ∙ insert-view o same (live xs ++ live zs) (live xs ++ (live_entry k (Some v) ++ live zs)) k v (changed k None (Some v) xs zs p)
      ∙ ap (λ es. map.insert (map.from_entries {R = R} es) k v) (sym (live-append xs zs))

  -- a slot whose entry goes, and a name that has none
  pub slot_unlinked : (k : List ℕ) (old : Option ℕ) (xs zs : List Slot) → Parts R k xs zs
      → map.from_entries {R = R} (live (xs ++ (k, None) ∷ zs)) ≡ map.remove (map.from_entries (live (xs ++ (k, old) ∷ zs))) k
  slot_unlinked k old xs zs p = grind (arith, at_slot, remove-view, changed)

  -- the slots on both sides of one
  pub parts_of_slot : (k : List ℕ) (link : Option ℕ) (xs zs : List Slot) → IsStrictlySortedBy R (keys_of (xs ++ (k, link) ∷ zs)) → Parts R k xs zs
  parts_of_slot k link xs zs s = grind (arith, keys-append, below_next, above_head, sorted_right)

  -- one more slot in a gap
  pub gap_sorted : (k : List ℕ) (link : Option ℕ) (xs zs : List Slot) → Parts R k xs zs → IsStrictlySortedBy R (keys_of (xs ++ zs)) →
      IsStrictlySortedBy R (keys_of (xs ++ (k, link) ∷ zs))
  gap_sorted k link xs zs p s = grind (arith, keys-append, sorted_between)

  -- another link for a slot
  pub slot_sorted : (k : List ℕ) (old new : Option ℕ) (xs zs : List Slot) → IsStrictlySortedBy R (keys_of (xs ++ (k, old) ∷ zs)) →
      IsStrictlySortedBy R (keys_of (xs ++ (k, new) ∷ zs))
  slot_sorted k old new xs zs s = subst (IsStrictlySortedBy R) (keys-append xs ((k, old) ∷ zs) ∙ sym (keys-append xs ((k, new) ∷ zs))) s

  -- the names, and how many there are
  pub live_keys : (slots : List Slot) → IsStrictlySortedBy R (keys_of slots) → map.keys (map.from_entries {R = R} (live slots)) ≡ keys_of (live slots)
  live_keys slots s = keys-view o (live slots) (live_sorted R slots s)

  pub live_count : (slots : List Slot) → IsStrictlySortedBy R (keys_of slots) → length (map.keys (map.from_entries {R = R} (live slots))) ≡ length (live slots)
  live_count slots s = length-keys o (live slots) (live_sorted R slots s)

-- ---- how many entries there are
pub count_slot : (k : List ℕ) (link : Option ℕ) (xs zs : List Slot) → length (live (xs ++ (k, link) ∷ zs))
    ≡ length (live xs) + (length (live_entry k link) + length (live zs))
count_slot k link xs zs = grind (arith, live-append, length-append)

pub count_gap : (xs zs : List Slot) → length (live (xs ++ zs)) ≡ length (live xs) + length (live zs)
count_gap xs zs = ap length (live-append xs zs) ∙ length-append (live xs) (live zs)

-- one entry more than without it
pub count_linked : (k : List ℕ) (v : ℕ) (xs zs : List Slot) → length (live (xs ++ (k, Some v) ∷ zs)) ≡ suc (length (live (xs ++ zs)))
count_linked k v xs zs = omega (arith, count_slot k (Some v) xs zs, count_gap xs zs)

pub count_gone : (k : List ℕ) (xs zs : List Slot) → length (live (xs ++ (k, None) ∷ zs)) ≡ length (live (xs ++ zs))
count_gone k xs zs = omega (arith, count_slot k None xs zs, count_gap xs zs)

pub count_relinked : (k : List ℕ) (v w : ℕ) (xs zs : List Slot) → length (live (xs ++ (k, Some v) ∷ zs)) ≡ length (live (xs ++ (k, Some w) ∷ zs))
count_relinked k v w xs zs = omega (arith, count_slot k (Some v) xs zs, count_slot k (Some w) xs zs)
