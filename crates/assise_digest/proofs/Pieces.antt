-- A list that is copied piece by piece.
use Rattle.assise_digest.proofs.Common.{◌≡◌, ℕ, List, ◌++◌, length, take, drop, append_assoc, drop-append_seam, arith}
use Rattle.std.proofs.lemmas.List.{take-append-drop}

pub piece_more : (file items new piece rest : List ℕ) (n most : ℕ) → items ++ rest ≡ file → n ≡ length items → piece ≡ take most (drop n file) →
    new ≡ items ++ piece → new ++ drop most rest ≡ file
piece_more file items new piece rest n most e len is grown = grind (arith, drop-append_seam, append_assoc, take-append-drop)
