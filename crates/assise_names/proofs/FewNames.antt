-- Paths of one to three names, and of more.
use Rattle.assise_names.proofs.Common.{◌≡◌, ◌==◌, ◌∷◌, [], ◌∙◌, ℕ, Bool, false, List, Ok, Err, length, ap, slice_split, name_of, ◌>>=◌, no_deeper, path_behind}
use Rattle.assise_names.proofs.Common.{path_of_pieces, pieces_as_names, PathFault}
use Rattle.assise_names.proofs.PathLemmas.{behind}

-- ---- a fault of a name is the path's

pub no_first : (p : List ℕ) (pieces : List (List ℕ)) (e : PathFault) → name_of p ≡ Err e → path_of_pieces (p ∷ pieces) ≡ Err e
no_first p pieces e h = ap (λ r. (r >>= λ name. pieces_as_names pieces >>= λ names. Ok (name ∷ names)) >>= no_deeper) h

-- after a name that is one
after : (p n : List ℕ) (pieces : List (List ℕ)) → name_of p ≡ Ok n → path_of_pieces (p ∷ pieces)
    ≡ ((pieces_as_names pieces >>= λ names. Ok (n ∷ names)) >>= no_deeper)
after p n pieces h = ap (λ r. (r >>= λ name. pieces_as_names pieces >>= λ names. Ok (name ∷ names)) >>= no_deeper) h

pub no_second : (p q n : List ℕ) (pieces : List (List ℕ)) (e : PathFault) → name_of p ≡ Ok n → name_of q ≡ Err e → path_of_pieces (p ∷ q ∷ pieces) ≡ Err e
no_second p q n pieces e first h = cc

pub no_third : (p q r n m : List ℕ) (pieces : List (List ℕ)) (e : PathFault) → name_of p ≡ Ok n → name_of q ≡ Ok m → name_of r ≡ Err e →
    path_of_pieces (p ∷ q ∷ r ∷ pieces) ≡ Err e
no_third p q r n m pieces e first second h = cc

-- ---- names that are

pub one_named : (p n : List ℕ) → name_of p ≡ Ok n → path_of_pieces (p ∷ []) ≡ Ok (n ∷ [])
one_named p n first = after p n [] first

pub two_named : (p q n m : List ℕ) → name_of p ≡ Ok n → name_of q ≡ Ok m → path_of_pieces (p ∷ q ∷ []) ≡ Ok (n ∷ m ∷ [])
two_named p q n m first second = cc

pub three_named : (p q r n m k : List ℕ) → name_of p ≡ Ok n → name_of q ≡ Ok m → name_of r ≡ Ok k → path_of_pieces (p ∷ q ∷ r ∷ []) ≡ Ok (n ∷ m ∷ k ∷ [])
three_named p q r n m k first second third = cc

-- ---- the pieces of a text

pub of_pieces : (bs : List ℕ) (b : Bool) → b ≡ (length bs == 0) → b ≡ false → (pieces : List (List ℕ)) → slice_split (λ b. b == 47) bs ≡ pieces →
    path_behind bs ≡ path_of_pieces pieces
of_pieces bs b e f pieces cut = ap (λ r. r >>= no_deeper) (behind bs b e f) ∙ ap path_of_pieces cut
