use Rattle.assise_record.proofs.Shared.Unique.{again}
use Rattle.assise_record.proofs.laws.reads_again.Goals as goal

pub returns : goal.returns
returns c = again
