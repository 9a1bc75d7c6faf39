-- A map of the kit, seen as a finite map: one in an order that tells all keys apart, or one of numbers by a hash.
use Rattle.std.specs.declared.cmp.Ordering.TheVariants.{Less}
use Rattle.assise_inode_table.proofs.Common.{AllByRecursion, IsDistinct, IsStrictlySortedBy, keys_of, length-map, nil_from_length, sorted_head, sorted_tail}
use Rattle.assise_inode_table.proofs.Common.{entries, entries-insert, empty, keys, len, len-entries, len-empty, len-insert, by_order, ◌≡◌, ℕ, false, cond, List}
use Rattle.assise_inode_table.proofs.Common.{[], ◌∷◌, Some, None, refl, sym, ap, ◌∙◌, ◌++◌, nat_eq, length, arith, eqb-true, exact_unsigned, IsTotalOrder}
use Rattle.assise_inode_table.proofs.Common.{nat_cmp_total, nat_eq_equiv, FinMap, IsAntisymmetric, get, from_entries, get-from_entries, get-insert, get-remove}
use Rattle.assise_inode_table.proofs.Common.{same_map, lookup, is_at}
use Rattle.std.specs.FinMap.{put}
use Rattle.std.specs.declared.cmp.Ordering.{Ordering}
use Rattle.std.specs.Ordering.{nat_cmp}
use Rattle.std.specs.FinMap.{find, insert, remove}

module _ {K X : Type 0} {R : K → K → Ordering} (o : IsTotalOrder R) where
  find-lookup : (es : List (K × X)) (q : K) → find R q es ≡ lookup (is_at (R q)) es
  find-lookup [] q = refl
  find-lookup (e ∷ es) q = ap (cond (is_at (R q) e.0) (Some e.1)) (find-lookup es q)

  -- a look-up in the entries is a look-up in the map
  pub get-view : (es : List (K × X)) (q : K) → get (from_entries {R = R} es) q ≡ lookup (is_at (R q)) es
  get-view es q = get-from_entries o es q ∙ find-lookup es q

  -- entries of which one key has got another value, or is new
  pub insert-view : IsAntisymmetric R → (es fs : List (K × X)) (k : K) (v : X)
      → ((q : K) → lookup (is_at (R q)) fs ≡ cond (is_at (R k) q) (Some v) (lookup (is_at (R q)) es)) → from_entries {R = R} fs ≡ insert (from_entries es) k v
  insert-view same es fs k v h = same_map o same _ _ (grind (arith, get-view, get-insert))

  -- entries of which one key is gone
  pub remove-view : IsAntisymmetric R → (es fs : List (K × X)) (k : K)
      → ((q : K) → lookup (is_at (R q)) fs ≡ cond (is_at (R k) q) None (lookup (is_at (R q)) es)) → from_entries {R = R} fs ≡ remove (from_entries es) k
  remove-view same es fs k h = same_map o same _ _ (grind (arith, get-view, get-remove))

  -- a key without an entry
  pub remove-absent : IsAntisymmetric R → (m : FinMap R X) (k : K) → get m k ≡ None → m ≡ remove m k
  remove-absent same m k none = same_map o same _ _ (grind (arith, get-remove))

  put_below : (k : K) (v : X) (es : List (K × X)) → AllByRecursion (λ y. R k y ≡ Less) (keys_of es) → put R k v es ≡ (k, v) ∷ es
  put_below k v [] h = refl
  put_below k v (e ∷ es) h = ap (λ r. by_order r ((k, v) ∷ e ∷ es) ((e.0, v) ∷ es) (e ∷ put R k v es)) h.0

  -- entries in order are those of the map that they make
  pub entries-view : (es : List (K × X)) → IsStrictlySortedBy R (keys_of es) → entries (from_entries {R = R} es) ≡ es
  entries-view [] h = nil_from_length (entries (empty {X = X} {R = R})) (sym (len-entries (empty {X = X} {R = R})) ∙ len-empty R X)
  entries-view (e ∷ es) h =
      entries-insert o (from_entries es) e.0 e.1 ∙ ap (put R e.0 e.1) (entries-view es (sorted_tail R e.0 (keys_of es) h))
      ∙ put_below e.0 e.1 es (sorted_head R e.0 (keys_of es) h)

  -- there are as many keys as entries
  pub length-keys : (es : List (K × X)) → IsStrictlySortedBy R (keys_of es) → length (keys (from_entries {R = R} es)) ≡ length es
  length-keys es h = length-map (entries (from_entries {R = R} es)) (λ e. e.0) ∙ ap length (entries-view es h)

  -- the keys, in the order of the entries
  pub keys-view : (es : List (K × X)) → IsStrictlySortedBy R (keys_of es) → keys (from_entries {R = R} es) ≡ keys_of es
  keys-view es h = ap keys_of (entries-view es h)

-- ---- numbers by a hash

-- an order of numbers and their equality tell the same apart
pub alike : (k q : ℕ) → is_at (nat_cmp k) q ≡ nat_eq k q
alike k q = grind (arith, eqb-true)

module _ {X : Type 0} where
  lookup-alike : (es : List (ℕ × X)) (q : ℕ) → lookup (is_at (nat_cmp q)) es ≡ lookup (nat_eq q) es
  lookup-alike [] q = refl
  lookup-alike (e ∷ es) q = (λ j. cond (alike q e.0 j) (Some e.1) (lookup-alike es q j))

  lacks : (k : ℕ) (es : List (ℕ × X)) → AllByRecursion (λ y. nat_eq k y ≡ false) (keys_of es) → lookup (nat_eq k) es ≡ None
  lacks k [] all = refl
  lacks k (e ∷ es) all = ap (λ b. cond b (Some e.1) (lookup (nat_eq k) es)) all.0 ∙ lacks k es all.1

  -- a look-up in the entries is a look-up in the map
  pub get-numbers : (es : List (ℕ × X)) (q : ℕ) → get (from_entries {R = nat_cmp} es) q ≡ lookup (nat_eq q) es
  get-numbers es q = get-view nat_cmp_total es q ∙ lookup-alike es q

  -- entries of which one number has got another value, or is new
  pub insert-numbers : (es fs : List (ℕ × X)) (k : ℕ) (v : X)
      → ((q : ℕ) → lookup (nat_eq q) fs ≡ cond (nat_eq k q) (Some v) (lookup (nat_eq q) es)) → from_entries {R = nat_cmp} fs ≡ insert (from_entries es) k v
  insert-numbers es fs k v h = search (insert-view, nat_cmp_total, exact_unsigned, lookup-alike, alike, arith) parts 3

  -- entries of which one number is gone
  pub remove-numbers : (es fs : List (ℕ × X)) (k : ℕ)
      → ((q : ℕ) → lookup (nat_eq q) fs ≡ cond (nat_eq k q) None (lookup (nat_eq q) es)) → from_entries {R = nat_cmp} fs ≡ remove (from_entries es) k
  remove-numbers es fs k h = search (remove-view, nat_cmp_total, exact_unsigned, lookup-alike, alike, arith) parts 3

  -- the same of the map that the entries were known to make
  pub get-seen : {m : FinMap nat_cmp X} (es : List (ℕ × X)) (q : ℕ) → from_entries es ≡ m → get m q ≡ lookup (nat_eq q) es
  get-seen es q is = ap (λ n. get n q) (sym is) ∙ get-numbers es q

  pub insert-seen : {m : FinMap nat_cmp X} (es fs : List (ℕ × X)) (k : ℕ) (v : X) → from_entries es ≡ m
      → ((q : ℕ) → lookup (nat_eq q) fs ≡ cond (nat_eq k q) (Some v) (lookup (nat_eq q) es)) → from_entries fs ≡ insert m k v
  insert-seen es fs k v is updates = insert-numbers es fs k v updates ∙ ap (λ n. insert n k v) is

  -- as many as there are entries, where no number comes twice
  pub len-numbers : (es : List (ℕ × X)) → IsDistinct nat_eq (keys_of es) → len (from_entries {R = nat_cmp} es) ≡ length es
  unfolding IsDistinct
  len-numbers [] d = len-empty nat_cmp X
  len-numbers (e ∷ es) d = grind (arith, len-numbers es d.1, len-insert, get-numbers, lacks)

  -- the last entry, where none before it has its number
  pub last_of : (es : List (ℕ × X)) (k : ℕ) (v : X) → lookup (nat_eq k) es ≡ None → lookup (nat_eq k) (es ++ (k, v) ∷ []) ≡ Some v
  last_of [] k v none = ap (λ b. cond b (Some v) None) (nat_eq_equiv.refl k)
  last_of (e ∷ es) k v none = grind (arith, last_of es k v)
