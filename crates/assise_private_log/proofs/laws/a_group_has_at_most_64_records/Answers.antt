use Rattle.assise_private_log.proofs.Shared.Borders.{some_whole}
use Rattle.assise_private_log.proofs.laws.a_group_has_at_most_64_records.Goals as goal

pub returns : goal.returns
returns c = some_whole
