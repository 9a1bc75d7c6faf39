use Rattle.assise_private_log.proofs.Shared.Borders.{open_group}
use Rattle.assise_private_log.proofs.laws.a_group_is_taken_in_record_by_record.Goals as goal

pub returns : goal.returns
returns c = open_group
