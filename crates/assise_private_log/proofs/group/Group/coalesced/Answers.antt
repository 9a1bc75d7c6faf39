use Rattle.assise_private_log.proofs.Common.{arith, group-shorter}
use Rattle.assise_private_log.proofs.Shared.LogGroups.{left_all}
use Rattle.assise_private_log.proofs.group.Group.coalesced.Goals as goal

pub invariant_of-result-2 : goal.invariant_of-result-2
invariant_of-result-2 c = grind (arith, left_all, group-shorter)
