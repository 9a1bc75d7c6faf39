use Rattle.assise_record.proofs.Shared.Unique.{spelled}
use Rattle.assise_record.proofs.laws.what_is_read_is_spelled.Goals as goal

pub returns : goal.returns
returns c = spelled
