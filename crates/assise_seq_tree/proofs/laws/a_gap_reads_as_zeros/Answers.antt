use Rattle.assise_seq_tree.proofs.Shared.Writes.{gap_is_zeros, size_after}
use Rattle.assise_seq_tree.proofs.laws.a_gap_reads_as_zeros.Goals as goal

pub returns-clause-gap : goal.returns-clause-gap
returns-clause-gap c = λ t u p offset size new h s some gap. gap_is_zeros t u p offset size new h s some gap

pub returns-clause-size : goal.returns-clause-size
returns-clause-size c = λ t u p offset size new h s some. size_after t u p offset size new h s some
