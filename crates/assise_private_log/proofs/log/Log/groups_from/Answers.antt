use Rattle.assise_private_log.proofs.Common.{arith}
use Rattle.assise_private_log.proofs.Shared.LogGroups.{effects_more, groups_more}
use Rattle.assise_private_log.proofs.log.Log.groups_from.Goals as goal

pub loop-rest-preserved : goal.loop-rest-preserved
loop-rest-preserved c = grind (arith, groups_more, effects_more)
