use Rattle.assise_inode_table.proofs.Common.{[], children}
use Rattle.assise_inode_table.proofs.PathReach.{reach_step}
use Rattle.assise_inode_table.proofs.EntryUnlinked.{rest, held, disjoint}
use Rattle.assise_inode_table.proofs.EntryFreed.{freed}
use Rattle.assise_inode_table.proofs.laws.an_entry_taken_out_leaves_two_trees.Goals as goal

pub returns-clause-rest : goal.returns-clause-rest
returns-clause-rest c = λ v w r d i t p name links s parent l. rest v w r d i t p name links s parent l

pub returns-clause-held : goal.returns-clause-held
returns-clause-held c = λ v w r d i t u p name links s parent l is. held v w r d i t p name links s parent l u is

pub returns-clause-disjoint : goal.returns-clause-disjoint
returns-clause-disjoint c = λ v w r d i t p name links s parent l. disjoint v w r d i t p name links s parent l

pub returns-clause-freed : goal.returns-clause-freed
returns-clause-freed c = λ v w u d i t p name links s parent l childless gone others.
    freed v u w d i t p name links s parent l (λ next j e. childless next j (reach_step (children v) i j next [] e)) gone others
