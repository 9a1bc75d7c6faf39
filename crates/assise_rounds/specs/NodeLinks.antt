-- The links of nodes, one for each.
-- van Renesse and Schneider, chain replication (OSDI 2004), section 2 (the channels between servers).
use Rattle.std.specs.Prelude.{◌≡◌, ℕ, zero, suc, List, [], ◌∷◌}
use Rattle.assise_link.specs.Kinds.{Kind, perfect}

-- node n has a link, the one at place n - 1, and it is a perfect one: of each it is said of which kind it is
abbrev pub FaithfulAt : List Kind → ℕ → Type 0
FaithfulAt links zero = ⊥
FaithfulAt [] (suc n) = ⊥
FaithfulAt (kind ∷ links) (suc zero) = kind ≡ perfect
FaithfulAt (kind ∷ links) (suc (suc n)) = FaithfulAt links (suc n)
