-- A map whose first entry has another tree.
use Rattle.assise_seq_tree.proofs.Common.{◌≡◌, ◌+◌, ◌<◌, ℕ, List, [], ◌∷◌, Some, nat_cmp, sym, arith, slice_get, keys_of, values_of, insert_entry, slice_cmp}
use Rattle.assise_seq_tree.proofs.Common.{nat_list_cmp_total, Tree, AreOrdered, IsOrdered, size_of, sizes_of, map_entries}
use Rattle.assise_seq_tree.proofs.Entries.{Stored}

-- the entries with another tree, which is as ordered as the one before: they are larger by what it is larger
pub record HasExchanged (es fs : List Stored) (w u : Tree) : Type 0 where
  pub ordered : AreOrdered (map_entries fs)
  pub sum : sizes_of (map_entries fs) + size_of u ≡ sizes_of (map_entries es) + size_of w
  pub falls : size_of u < sizes_of (map_entries es)

-- the map with another tree at its first key
pub first-written : (es fs : List Stored) (k : List ℕ) (w u : Tree) → slice_get (keys_of es) 0 ≡ Some k → slice_get (values_of es) 0 ≡ Some u →
    fs ≡ insert_entry (slice_cmp nat_cmp) es k w → AreOrdered (map_entries es) → IsOrdered w → HasExchanged es fs w u
first-written [] fs k w u key value is ordered o = cc
first-written (e ∷ es) fs k w u key value is ordered o = grind (arith, nat_list_cmp_total)

-- the same with other words for both trees
pub exchanged-sum : (es fs : List Stored) (w u x y : Tree) → HasExchanged es fs w u → y ≡ u → w ≡ x → sizes_of (map_entries fs) + size_of y
    ≡ sizes_of (map_entries es) + size_of x
exchanged-sum es fs w u x y h left put = rw (left, sym put) h.sum
