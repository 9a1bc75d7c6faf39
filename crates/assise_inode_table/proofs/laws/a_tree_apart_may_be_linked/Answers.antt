use Rattle.assise_inode_table.proofs.SubtreeLinked.{linked}
use Rattle.assise_inode_table.proofs.laws.a_tree_apart_may_be_linked.Goals as goal

pub returns : goal.returns
returns c = λ v w r d i t u p name links s held disjoint parent a. linked v w r d i t u p name links s held disjoint parent a
