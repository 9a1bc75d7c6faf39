use Rattle.assise_files.proofs.LostTree.{tree_again}
use Rattle.assise_files.proofs.laws.what_is_made_again_gives_the_tree_that_was.Goals as goal

pub returns : goal.returns
returns c = λ h c n first d m u left lost legal last. tree_again h c n first legal d m u left lost last
