-- The payloads of entries, and the bytes of names, with one more behind.
use Rattle.assise_history.proofs.Common.{◌≡◌, ℕ, ◌+◌, ◌<◌, List, [], ◌∷◌, ◌++◌, length, take, get_or, ap, sym, ◌∙◌, arith, take_more, EntryValue, name_bytes}
use Rattle.assise_history.proofs.Common.{payload, payloads}

pub payloads_more : (es : List EntryValue) (e : EntryValue) → payloads (es ++ e ∷ []) ≡ payloads es + payload e
payloads_more [] e = omega arith
payloads_more (x ∷ es) e = omega (arith, payloads_more es e)

names_more : (names : List (List ℕ)) (name : List ℕ) → name_bytes (names ++ name ∷ []) ≡ name_bytes names + length name
names_more [] name = omega arith
names_more (x ∷ names) name = omega (arith, names_more names name)

pub names_taken : (names : List (List ℕ)) (i : ℕ) (name : List ℕ) → i < length names → name ≡ get_or names i name →
    name_bytes (take (i + 1) names) ≡ name_bytes (take i names) + length name
names_taken names i name within is =
    ap name_bytes (take_more names i name within) ∙ names_more (take i names) (get_or names i name) ∙ ap (λ n. name_bytes (take i names) + length n) (sym is)
