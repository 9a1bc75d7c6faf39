use Rattle.assise_record.proofs.Shortness.{short_is}
use Rattle.assise_record.proofs.laws.what_is_short_is_unfinished.Goals as goal

pub returns : goal.returns
returns c = short_is
