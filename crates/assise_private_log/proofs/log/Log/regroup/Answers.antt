use Rattle.assise_private_log.proofs.Common.{arith}
use Rattle.assise_private_log.proofs.Shared.LogGroups.{all_passed, groups_one_more, one_passed, room_for_group}
use Rattle.assise_private_log.proofs.log.Log.regroup.Goals as goal

pub append_group-requires : goal.append_group-requires
append_group-requires c = grind (arith, room_for_group)

pub loop-group-preserved : goal.loop-group-preserved
loop-group-preserved c = grind (arith, groups_one_more, one_passed)

pub returns-clause-ok : goal.returns-clause-ok
returns-clause-ok c = grind (arith, all_passed)
