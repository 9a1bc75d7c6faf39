-- What effects make of the value of an inode.
use Rattle.assise_inode_table.proofs.Common.{◌≡◌, ℕ, Bool, true, false, cond, if◌then◌else◌, List, [], ◌∷◌, ◌++◌, ◌||◌, ◌==◌, Option, Some, None, refl, ap, sym}
use Rattle.assise_inode_table.proofs.Common.{◌∙◌, ne_eqb, or_parts, map-append, eq_by_cmp, nat_cmp_total, Effect, touched_by, Content, InodeMap, effect_on}
use Rattle.assise_inode_table.proofs.Common.{value_after, touched, contains, with_value, applied, arith}
use Rattle.std.specs.Ordering.{nat_cmp}
use Rattle.std.specs.FinMap as fin

or_assoc : (a b c : Bool) → ((a || b) || c) ≡ (a || (b || c))
or_assoc true b c = refl
or_assoc false b c = refl

pub contains-append : (is js : List ℕ) (i : ℕ) → contains (is ++ js) i ≡ (contains is i || contains js i)
contains-append [] js i = refl
contains-append (k ∷ is) js i = rw (contains-append is js i) (sym (or_assoc (k == i) (contains is i) (contains js i)))

pub touched-append : (es fs : List Effect) → touched (es ++ fs) ≡ touched es ++ touched fs
touched-append es fs = map-append touched_by es fs

pub contains-both : (es fs : List Effect) (i : ℕ) → contains (touched (es ++ fs)) i ≡ (contains (touched es) i || contains (touched fs) i)
contains-both es fs i = ap (λ l. contains l i) (touched-append es fs) ∙ contains-append (touched es) (touched fs) i

pub value_after-append : (i : ℕ) (old : Option Content) (es fs : List Effect) → value_after i old (es ++ fs) ≡ value_after i (value_after i old es) fs
value_after-append i old [] fs = refl
value_after-append i old (e ∷ es) fs = value_after-append i (if touched_by e == i then effect_on old e else old) es fs

-- an inode that no effect touches keeps its value
pub untouched : (i : ℕ) (old : Option Content) (es : List Effect) → contains (touched es) i ≡ false → value_after i old es ≡ old
untouched i old [] h = refl
untouched i old (e ∷ es) h = let parts = or_parts (touched_by e == i) (contains (touched es) i) h in rw parts.0 (untouched i old es parts.1)

-- ---- finite maps

-- one number by its order
pub same_number : (i j : ℕ) → eq_by_cmp nat_cmp i j ≡ (j == i)
same_number i j = grind (arith, ne_eqb)

pub get-with_value : (m : InodeMap) (j : ℕ) (o : Option Content) (i : ℕ) → fin.get (with_value m j o) i ≡ (if j == i then o else fin.get m i)
get-with_value m j None i = fin.get-remove nat_cmp_total m j i ∙ ap (λ b. cond b None (fin.get m i)) (same_number i j)
get-with_value m j (Some content) i = fin.get-insert nat_cmp_total m j content i ∙ ap (λ b. cond b (Some content) (fin.get m i)) (same_number i j)

pub get-applied : (m : InodeMap) (e : Effect) (i : ℕ) → fin.get (applied m e) i ≡ value_after i (fin.get m i) (e ∷ [])
get-applied m e i = search (get-with_value, arith) parts 3
