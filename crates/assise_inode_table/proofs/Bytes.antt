-- The bytes of a file by their places, with zeros past its end.
use Rattle.assise_inode_table.proofs.Common.{◌≡◌, ℕ, ◌+◌, ◌-◌, ◌<◌, ◌≤◌, ◌⊎◌, List, get_or, length, arith, max, length-append, same_number_lists}
use Rattle.assise_inode_table.proofs.Common.{get_or_append_left, get_or-append_right, get_or-take, get_or-drop, get_or-replicate, get_or_past, length-take}
use Rattle.assise_inode_table.proofs.Common.{overwritten, resized, length-overwritten}
use Rattle.assise_seq_tree.proofs.Shared.FileResized.{length-resized}

abbrev pub byte : List ℕ → ℕ → ℕ
byte xs p = get_or xs p 0

-- ---- another size

pub resized_inside : (xs : List ℕ) (n p : ℕ) → p < n → byte (resized xs n) p ≡ byte xs p
resized_inside xs n p h = grind (arith, get_or_append_left, get_or-take, get_or-append_right, get_or-replicate, length-take, get_or_past)

-- ---- a write: the bytes before it are those of a file of that size

pub written_before : (xs : List ℕ) (o : ℕ) (new : List ℕ) (p : ℕ) → p < o → byte (overwritten xs o new) p ≡ byte xs p
written_before xs o new p h = grind (arith, get_or_append_left, length-append, length-resized, resized_inside)

pub written_here : (xs : List ℕ) (o : ℕ) (new : List ℕ) (p : ℕ) → o ≤ p → p < o + length new → byte (overwritten xs o new) p ≡ byte new (p - o)
written_here xs o new p low high = grind (arith, get_or_append_left, length-append, length-resized, get_or-append_right)

pub written_behind : (xs : List ℕ) (o : ℕ) (new : List ℕ) (p : ℕ) → o + length new ≤ p → byte (overwritten xs o new) p ≡ byte xs p
written_behind xs o new p low = grind (arith, get_or-append_right, length-append, length-resized, get_or-drop)

-- ---- files that differ only in some bytes

-- a place that isn't one of those from o to e
abbrev pub IsOutside : ℕ → ℕ → ℕ → Type 0
IsOutside o e p = (p < o) ⊎ (e ≤ p)

-- they differ only in the bytes from o to e, and, where they end before e, in their ends
pub record DifferIn (o e : ℕ) (xs ys : List ℕ) : Type 0 where
  pub bytes : (p : ℕ) → IsOutside o e p → byte xs p ≡ byte ys p
  pub lengths : max (length xs) e ≡ max (length ys) e

-- a write makes others alike that are alike outside of it
written_alike : (xs ys : List ℕ) (k : ℕ) (new : List ℕ) (p : ℕ) → (IsOutside k (k + length new) p → byte xs p ≡ byte ys p)
    → byte (overwritten xs k new) p ≡ byte (overwritten ys k new) p
written_alike xs ys k new p same = grind (arith, written_before, written_here, written_behind)

pub written_differs : (xs : List ℕ) (o : ℕ) (new : List ℕ) → DifferIn o (o + length new) xs (overwritten xs o new)
written_differs xs o new = grind (arith, written_before, written_behind, length-overwritten)

pub write_keeps : (o e : ℕ) (xs ys : List ℕ) (k : ℕ) (new : List ℕ) → DifferIn o e xs ys → DifferIn o e (overwritten xs k new) (overwritten ys k new)
write_keeps o e xs ys k new d = grind (arith, written_alike, length-overwritten)

pub size_keeps : (o e : ℕ) (xs ys : List ℕ) (n : ℕ) → DifferIn o e xs ys → DifferIn o e (resized xs n) (resized ys n)
size_keeps o e xs ys n d = grind (arith, resized_inside, get_or_past, length-resized)

-- a write over these bytes leaves no difference
pub write_settles : (o e : ℕ) (xs ys : List ℕ) (k : ℕ) (new : List ℕ) → DifferIn o e xs ys → k ≤ o → e ≤ k + length new →
    overwritten xs k new ≡ overwritten ys k new
write_settles o e xs ys k new d low high = grind (arith, same_number_lists, length-overwritten, written_alike)
