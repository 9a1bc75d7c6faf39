-- Entries of directories that effects name.
use Rattle.assise_record.proofs.Common.{◌≡◌, ℕ, ◌==◌, ◌&&◌, Bool, List, pointwise, slice_cmp, texts_ties, arith}
use Rattle.std.specs.Ordering.{nat_cmp, is_eq}

-- in one directory names that are compared decide whether it is the same entry
pub same_entry : (b d : ℕ) (name other : List ℕ) (same : Bool) → b ≡ d → same ≡ pointwise ◌==◌ name other →
    same ≡ ((b == d) && is_eq (slice_cmp nat_cmp name other))
same_entry b d name other same here told = grind (arith, texts_ties)
