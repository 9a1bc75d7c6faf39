use Rattle.assise_seq_tree.proofs.EntryRemoved.{unlinked_is_gone, removed_is_gone}
use Rattle.assise_seq_tree.proofs.laws.what_is_removed_is_gone.Goals as goal

pub returns-clause-unlinked : goal.returns-clause-unlinked
returns-clause-unlinked c = λ t u p s h. unlinked_is_gone t u p s h

pub returns-clause-removed : goal.returns-clause-removed
returns-clause-removed c = λ t u p s h. removed_is_gone t u p s h
