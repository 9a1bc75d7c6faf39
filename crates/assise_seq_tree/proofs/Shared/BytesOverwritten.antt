-- Writing into bytes that were made long enough first.
use Rattle.assise_seq_tree.proofs.Common.{◌≡◌, ℕ, zero, suc, ◌+◌, ◌-◌, ◌≤◌, ◌<◌, List, [], ◌∷◌, ◌++◌, length, take, drop, replicate, ap, arith, append-nil}
use Rattle.assise_seq_tree.proofs.Common.{length-append, take_all, drop_all, length-replicate, take-replicate, overwritten}

pub take-append : (n : ℕ) (xs ys : List ℕ) → take n (xs ++ ys) ≡ take n xs ++ take (n - length xs) ys
take-append zero xs ys = let none : 0 - length xs ≡ 0 = omega arith in rw none
take-append (suc n) [] ys = let all : suc n - 0 ≡ suc n = omega arith in rw all
take-append (suc n) (x ∷ xs) ys = let less : suc n - length (x ∷ xs) ≡ n - length xs = omega arith in rw less (ap (λ zs. x ∷ zs) (take-append n xs ys))

-- the bytes are long enough
pub within : (bytes : List ℕ) (offset : ℕ) (new : List ℕ) → offset + length new ≤ length bytes → take offset bytes ++ new ++ drop (offset + length new) bytes
    ≡ overwritten bytes offset new
within bytes offset new h = grind (arith, append-nil)

prefix_filled : (bytes more : List ℕ) (offset m : ℕ) → more ≡ bytes ++ replicate m 0 → offset - length bytes ≤ m →
    take offset more ≡ take offset bytes ++ replicate (offset - length bytes) 0
prefix_filled bytes more offset m is fits = grind (arith, take-append, take-replicate)

-- they were filled up with zeros
pub filled : (bytes : List ℕ) (offset : ℕ) (new more : List ℕ) (len : ℕ) → len ≡ length bytes → length bytes < offset + length new →
    more ≡ take (offset + length new) bytes ++ replicate (offset + length new - len) 0
    → take offset more ++ new ++ drop (offset + length new) more ≡ overwritten bytes offset new
filled bytes offset new more len l h e' = grind (arith, take_all, length-append, length-replicate, drop_all, prefix_filled)

-- a slice that was written as a whole is what its vector holds
pub whole : (n : ℕ) (xs ys : List ℕ) → length xs ≡ n → length ys ≡ n → take n (xs ++ drop (length xs) ys) ≡ xs
whole n xs ys e f = let none : drop (length xs) ys ≡ [] = drop_all (length xs) ys (omega arith) in rw (none, append-nil xs) (take_all n xs (omega arith))
