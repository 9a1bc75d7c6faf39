use Rattle.assise_inode_table.proofs.Shared.InodeNumbers.{one_number, not_the_root}
use Rattle.assise_inode_table.proofs.laws.each_inode_has_a_number_of_its_own.Goals as goal

pub returns-clause-own : goal.returns-clause-own
returns-clause-own c = one_number

pub returns-clause-root : goal.returns-clause-root
returns-clause-root c = not_the_root
