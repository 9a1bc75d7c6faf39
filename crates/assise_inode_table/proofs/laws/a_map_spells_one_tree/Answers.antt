use Rattle.assise_inode_table.proofs.Shared.SpellingUnique.{spelled_is_one, spelled_is_ordered}
use Rattle.assise_inode_table.proofs.laws.a_map_spells_one_tree.Goals as goal

pub returns-clause-one : goal.returns-clause-one
returns-clause-one c = λ v t u s o. spelled_is_one v 0 t u s.tree o.tree

pub returns-clause-ordered : goal.returns-clause-ordered
returns-clause-ordered c = λ v t s. spelled_is_ordered v 0 t s.tree
