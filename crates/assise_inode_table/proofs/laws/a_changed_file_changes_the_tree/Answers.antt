use Rattle.assise_inode_table.proofs.FileRewritten.{file_rewritten}
use Rattle.assise_inode_table.proofs.laws.a_changed_file_changes_the_tree.Goals as goal

pub returns : goal.returns
returns c = λ v w t p i bytes new s place before after others. file_rewritten v w t p i bytes new s place before after others
