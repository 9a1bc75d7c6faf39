-- Lists whose first item has number 1.
use Rattle.std.specs.Prelude.{ℕ, zero, suc, ◌<◌, ◌≤◌, List, ◌∷◌, length, slice_index_or, slice_set}

-- the number of an item
pub record IsNumber {X : Type 0} (xs : List X) (n : ℕ) : Type 0 where
  pub some : 0 < n
  pub there : n ≤ length xs

-- the item of a number, or the default where there is none of that number
unfoldable pub item_at : {X : Type 0} → X → List X → ℕ → X
item_at none xs n = slice_index_or (none ∷ xs) n none

-- with another item of a number, where there is one of that number
abbrev pub with_item : {X : Type 0} → List X → ℕ → X → List X
with_item xs zero x = xs
with_item xs (suc k) x = slice_set xs k x
