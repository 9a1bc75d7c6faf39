-- The nodes of a chain in their order, and who stands behind whom: what a node takes in from the node in front it passes to
-- the node behind, until the last has it. van Renesse and Schneider, chain replication (OSDI 2004), section 2; Assise (OSDI
-- 2020), section 3.
use Rattle.std.specs.Prelude.{ℕ, ◌<◌, ◌==◌, nat_lt, nat_le, if◌then◌else◌, List, [], ◌∷◌, ◌++◌, filter, Option, Some, None}
use Rattle.std.specs.List.{AllByRecursion}

-- the chain of a head: the full nodes from the head on, then those below it, each in the order in which they are given
abbrev pub chain : List ℕ → ℕ → List ℕ
chain full head = filter (nat_le head) full ++ filter (λ n. nat_lt n head) full

-- the first of some nodes
abbrev pub first_of_all : List ℕ → Option ℕ
first_of_all [] = None
first_of_all (n ∷ ns) = Some n

-- the node behind the first place of a node: none, where that is the last place or the node isn't there
abbrev pub behind : ℕ → List ℕ → Option ℕ
behind node [] = None
behind node (n ∷ ns) = if n == node then first_of_all ns else behind node ns

-- each node is below all behind it
abbrev pub IsAscending : List ℕ → Type 0
IsAscending [] = Unit {0}
IsAscending (n ∷ ns) = AllByRecursion (λ m. n < m) ns × IsAscending ns
