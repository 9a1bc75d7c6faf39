use Rattle.assise_seq_tree.proofs.NamesAscend.{listed_names_ascend}
use Rattle.assise_seq_tree.proofs.laws.a_list_ascends.Goals as goal

pub returns : goal.returns
returns c = λ t u p names s h. listed_names_ascend t u p names s h
