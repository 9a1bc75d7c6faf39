use Rattle.assise_inode_table.proofs.Common.{[], file, dir, no_entries}
use Rattle.assise_inode_table.proofs.Leaves.{file_nowhere, file_spells, empty_nowhere, empty_spells}
use Rattle.assise_inode_table.proofs.NewInodeLinked.{created}
use Rattle.assise_inode_table.proofs.laws.a_new_inode_stands_at_its_entry.Goals as goal

pub returns-clause-new_file : goal.returns-clause-new_file
returns-clause-new_file c = λ v w u d i t p name links s fresh here others place a.
    created v u w d i t (file []) p name links s fresh others (file_spells u i [] here) (file_nowhere u i [] here) place a

pub returns-clause-new_directory : goal.returns-clause-new_directory
returns-clause-new_directory c = λ v w u d i t p name links s fresh here others place a.
    created v u w d i t (dir no_entries) p name links s fresh others (empty_spells u i here) (empty_nowhere u i here) place a
