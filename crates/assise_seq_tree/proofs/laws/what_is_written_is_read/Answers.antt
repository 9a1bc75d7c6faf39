use Rattle.assise_seq_tree.proofs.Shared.Writes.{written_is_read}
use Rattle.assise_seq_tree.proofs.laws.what_is_written_is_read.Goals as goal

pub returns : goal.returns
returns c = λ t u p offset new h. written_is_read t u p offset new h
