-- Up to which version a node reads frames, which is the version that it sends: so a cluster is raised node by node.
use Rattle.std.specs.Prelude.{ℕ, zero, suc, ◌-◌, Bool, true, false, List, [], ◌∷◌, Option, Some, None}
use Rattle.std.specs.List.{slice_index_or, slice_set}
use Rattle.assise_manager.specs.declared.level.Level.{Level}
use Rattle.assise_manager.specs.declared.level.Level.TheVariants.{Plain, Marked}

-- the newest version of frames that a node reads
abbrev pub newest : Level → ℕ
newest Plain = 1
newest Marked = 2

-- whether it sends marks
abbrev pub sends_marks : Level → Bool
sends_marks Plain = false
sends_marks Marked = true

-- the level of a node: nodes are numbered from 1
abbrev pub level_of : List Level → ℕ → Level
level_of levels zero = Plain
level_of levels (suc place) = slice_index_or levels place Plain

-- with another level of a node
abbrev pub with_level : List Level → ℕ → Level → List Level
with_level levels node l = slice_set levels (node - 1) l

abbrev pub greater : Level → Level → Level
greater Plain l = l
greater Marked l = Marked

-- `count` nodes at the first level
abbrev pub plains : ℕ → List Level
plains zero = []
plains (suc count) = Plain ∷ plains count

-- a node that was filled from another has the greater of both levels
abbrev pub joined_levels : List Level → ℕ → Option ℕ → List Level
joined_levels levels node None = levels
joined_levels levels node (Some donor) = with_level levels node (greater (level_of levels node) (level_of levels donor))
