use Rattle.assise_private_log.proofs.Shared.Borders.{covers_group}
use Rattle.assise_private_log.proofs.laws.a_raised_cut_covers.Goals as goal

pub returns : goal.returns
returns c = covers_group
