-- The words of a line are the pieces between its spaces.
use Rattle.assise_fault_script.proofs.Common.{◌≡◌, ℕ, zero, suc, ◌==◌, List, [], ◌∷◌, ◌++◌, length, take, map, filter, Option, Some, None, Bor, refl, ap, sym}
use Rattle.assise_fault_script.proofs.Common.{◌∙◌, lit<, arith, append_assoc, true, length-map, take-append_seam, eqb-true, slice_split_first, slice_split_none}
use Rattle.assise_fault_script.proofs.Common.{fails_before_first, IsSplitOnceResult, split_once_first, is_word, words_of}

-- a piece in front of others
pub word_more : (piece : List ℕ) (pieces : List (List ℕ)) → filter is_word (piece ∷ pieces) ≡ filter is_word (piece ∷ []) ++ filter is_word pieces
word_more piece pieces = grind arith

pub cut : (bs : List ℕ) (r : Option (Bor (List ℕ) × Bor (List ℕ))) (x : Bor (List ℕ) × Bor (List ℕ)) → IsSplitOnceResult 32 bs r → r ≡ Some x →
    words_of bs ≡ filter is_word (x.0.now ∷ []) ++ words_of x.1.now
cut bs (Some y) x h e = grind (arith, split_once_first 32 bs (Some y) h (lit< tt), slice_split_first)
cut bs None x h e = cc

pub uncut : (bs : List ℕ) (r : Option (Bor (List ℕ) × Bor (List ℕ))) → IsSplitOnceResult 32 bs r → r ≡ None → words_of bs ≡ filter is_word (bs ∷ [])
uncut bs None h e = grind (arith, split_once_first 32 bs None h (lit< tt), slice_split_none, fails_before_first)
uncut bs (Some y) h e = cc

pub take_twice : (n : ℕ) (xs ys : List (List ℕ)) → take n (take n xs ++ ys) ≡ take n (xs ++ ys)
take_twice zero xs ys = refl
take_twice (suc n) [] ys = refl
take_twice (suc n) (x ∷ xs) ys = ap (λ zs. x ∷ zs) (take_twice n xs ys)

pub joined : (xs ys zs all : List (List ℕ)) → zs ≡ take 6 (xs ++ ys) → (rest : List (List ℕ)) → all ≡ ys ++ rest → take 6 (zs ++ rest) ≡ take 6 (xs ++ all)
joined xs ys zs all h rest parts = search (append_assoc, arith) parts 3

-- six words leave no room
pub full : (items : List (Bor (List ℕ))) (more : List (List ℕ)) → true ≡ (length items == 6) → map (λ w. w.now) items ≡ take 6 (map (λ w. w.now) items ++ more)
full items more h =
    let words = map (λ w. w.now) items in
    let six : length words ≡ 6 = length-map items (λ w. w.now) ∙ eqb-true (length items) 6 (sym h) in
    sym (take-append_seam words more) ∙ ap (λ n. take n (words ++ more)) six
