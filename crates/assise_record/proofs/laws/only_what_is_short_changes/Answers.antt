use Rattle.assise_record.proofs.Stays.{frame_stays}
use Rattle.assise_record.proofs.laws.only_what_is_short_changes.Goals as goal

pub returns : goal.returns
returns c = frame_stays
