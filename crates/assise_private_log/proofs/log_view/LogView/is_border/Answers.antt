use Rattle.assise_private_log.proofs.Common.{arith}
use Rattle.assise_private_log.proofs.Shared.Borders.{border_unmarked}
use Rattle.assise_private_log.proofs.log_view.LogView.is_border.Goals as goal

pub returns-in-None-clause-border : goal.returns-in-None-clause-border
returns-in-None-clause-border c = grind (arith, border_unmarked)
