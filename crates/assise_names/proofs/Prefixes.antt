-- When a path is a proper prefix of another.
use Rattle.assise_names.proofs.Common.{◌≡◌, ℕ, ◌+◌, ◌<◌, ◌==◌, Bool, List, [], ◌∷◌, ◌++◌, length, take, drop, ap, ◌∙◌, arith, IsTrue, length-append, pointwise}
use Rattle.assise_names.proofs.Common.{IsProperPrefix}
use Rattle.std.proofs.lemmas.Slice.Eq.{bytes_eq-Decides, starts_is}

abbrev Names : Type 0
Names = List (List ℕ)

-- what `starts_with` says of names
abbrev pub Begins : Bool → Names → Names → Type 0
Begins b q p = b ≡ pointwise (pointwise ◌==◌) p (take (length p) q)

goes_on : (rest : Names) (p q : Names) → q ≡ p ++ rest → length p < length q → IsProperPrefix p q
goes_on [] p q e h = let same : length q ≡ length p + 0 = ap length e ∙ length-append p [] in absurd (omega arith)
goes_on (name ∷ rest) p q e h = (name, (rest, e))

pub from_tests : (p q : Names) (b : Bool) → length p < length q → Begins b q p → IsTrue b → IsProperPrefix p q
from_tests p q b h is begun = goes_on (drop (length p) q) p q ((starts_is bytes_eq-Decides q p b is).0 begun) h

pub to_tests : (p q : Names) (b : Bool) → Begins b q p → IsProperPrefix p q → IsTrue b
to_tests p q b is prefix = (starts_is bytes_eq-Decides q p b is).1 (prefix.0 ∷ prefix.1.0) prefix.1.1
