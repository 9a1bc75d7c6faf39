use Rattle.assise_private_log.proofs.Shared.Borders.{is_whole, next_border}
use Rattle.assise_private_log.proofs.laws.groups_end_at_borders.Goals as goal

pub returns : goal.returns
returns c = record { next = next_border; whole = is_whole }
