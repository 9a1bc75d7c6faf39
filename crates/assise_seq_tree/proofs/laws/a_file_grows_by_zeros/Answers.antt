use Rattle.assise_seq_tree.proofs.Shared.FileResized.{size_given, prefix_kept, grown_by_zeros}
use Rattle.assise_seq_tree.proofs.laws.a_file_grows_by_zeros.Goals as goal

pub returns-clause-size : goal.returns-clause-size
returns-clause-size c = λ t u p size h. size_given t u p size h

pub returns-clause-prefix : goal.returns-clause-prefix
returns-clause-prefix c = λ t u p from most size old h r prefix. prefix_kept t u p from most size old h r prefix

pub returns-clause-zeros : goal.returns-clause-zeros
returns-clause-zeros c = λ t u p before size h s grows. grown_by_zeros t u p before size h s grows
