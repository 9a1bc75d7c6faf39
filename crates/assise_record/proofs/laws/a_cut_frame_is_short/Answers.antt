use Rattle.assise_record.proofs.Shared.Unique.{cut}
use Rattle.assise_record.proofs.laws.a_cut_frame_is_short.Goals as goal

pub returns : goal.returns
returns c = cut
