use Rattle.assise_inode_table.proofs.Shared.AtOpening.{opening_spells}
use Rattle.assise_inode_table.proofs.laws.the_opening_spells_the_opening_tree.Goals as goal

pub returns : goal.returns
returns c = opening_spells
