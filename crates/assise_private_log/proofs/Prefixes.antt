-- Two runs of items, one behind the other, without the first ones.
use Rattle.assise_private_log.proofs.Common.{◌≡◌, ℕ, zero, suc, ◌-◌, min, List, [], ◌∷◌, ◌++◌, length, drop, ap, sym, arith, drop_min}

-- those that are not taken from the first run are taken from the second
drop-append : {X : Type 0} (n : ℕ) (xs ys : List X) → drop n (xs ++ ys) ≡ drop n xs ++ drop (n - length xs) ys
drop-append zero [] ys = cc
drop-append (suc n) [] ys = let all : suc n ≡ suc n - zero = omega arith in ap (λ k. drop k ys) all
drop-append zero (x ∷ xs) ys = let none : zero - suc (length xs) ≡ zero = omega arith in ap (λ k. (x ∷ xs) ++ drop k ys) (sym none)
drop-append (suc n) (x ∷ xs) ys = grind (arith, (drop-append n xs ys))

-- the same, where no more are taken than there are
pub drop_of_two : {X : Type 0} (n : ℕ) (xs ys : List X) → drop (min n (length xs)) xs ++ drop (min (n - min n (length xs)) (length ys)) ys ≡ drop n (xs ++ ys)
drop_of_two n xs ys = grind (arith, drop_min, drop-append)
