-- A map without its last entry.
use Rattle.assise_seq_tree.proofs.Common.{◌≡◌, ◌+◌, List, [], ◌∷◌, ◌++◌, ℕ, arith, AreOrdered, IsBelow, size_of, sizes_of, map_entries}
use Rattle.assise_seq_tree.proofs.Entries.{Stored}

below-front : (name : List ℕ) (es : List Stored) (e : Stored) → IsBelow name (map_entries (es ++ e ∷ [])) → IsBelow name (map_entries es)
below-front name [] e below = tt
below-front name (d ∷ es) e below = (below.0, below-front name es e below.1)

pub ordered-front : (es : List Stored) (e : Stored) → AreOrdered (map_entries (es ++ e ∷ [])) → AreOrdered (map_entries es)
ordered-front [] e ordered = tt
ordered-front (d ∷ es) e ordered = (below-front (d.0) es e ordered.0, ordered.1, ordered-front es e ordered.2)

pub sizes-front : (es : List Stored) (e : Stored) → sizes_of (map_entries (es ++ e ∷ [])) ≡ sizes_of (map_entries es) + size_of e.1 + 1
sizes-front [] e = omega arith
sizes-front (d ∷ es) e = omega (arith, sizes-front es e)
