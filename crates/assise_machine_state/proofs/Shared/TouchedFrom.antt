-- The inodes that the first records of a list touch.
use Rattle.assise_machine_state.proofs.Common.{◌≡◌, ℕ, ◌+◌, List, ◌∷◌, take, arith}

-- the first item of a prefix
pub taken_first : {X : Type 0} (n m : ℕ) (xs ys : List X) (x : X) → m + 1 ≡ n → xs ≡ x ∷ ys → take n xs ≡ x ∷ take m ys
taken_first n m xs ys x next is = grind arith
