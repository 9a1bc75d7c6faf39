-- What is left of effects that can be made all or none can be made so too.
use Rattle.assise_inode_table.proofs.Common.{◌≡◌, inl, inr, List, [], ◌∷◌, ◌++◌, refl, append_assoc, append-nil, Effect, left_of, OnlyTakeAway, OnlyFirstAsks}
use Rattle.assise_inode_table.proofs.Common.{MakesThenAsks, EndsWithLink, CanBeMadeWhole, arith}

left_of-both : (es fs later : List Effect) → left_of (es ++ fs) later ≡ left_of es (fs ++ later) ++ left_of fs later
left_of-both [] fs later = refl
left_of-both (e ∷ es) fs later = grind (arith, left_of-both es fs later, append_assoc)

take_left : (es later : List Effect) → OnlyTakeAway es → OnlyTakeAway (left_of es later)
take_left [] later h = tt
take_left (e ∷ es) later h = grind (arith, take_left es later h.1)

first_left : (es later : List Effect) → OnlyFirstAsks es → OnlyFirstAsks (left_of es later)
first_left [] later h = tt
first_left (e ∷ es) later h = grind (arith, take_left)

makes_left : (es later : List Effect) → MakesThenAsks es → CanBeMadeWhole (left_of es later)
makes_left [] later h = absurd h
makes_left (e ∷ es) later h = search (first_left, arith) parts 3

link_left : (es later : List Effect) → EndsWithLink es → CanBeMadeWhole (left_of es later)
link_left es later h = search (left_of-both, append-nil, take_left, arith) parts 3

pub whole_left : (es later : List Effect) → CanBeMadeWhole es → CanBeMadeWhole (left_of es later)
whole_left es later (inl makes) = makes_left es later makes
whole_left es later (inr (inl first)) = inr (inl (first_left es later first))
whole_left es later (inr (inr link)) = link_left es later link
