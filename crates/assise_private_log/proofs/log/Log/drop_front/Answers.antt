use Rattle.assise_private_log.proofs.Common.{rules}
use Rattle.assise_private_log.proofs.Shared.Borders.{rings_prefix}
use Rattle.assise_private_log.proofs.log.Log.drop_front.Goals as goal

pub invariant_of-self-inside : goal.invariant_of-self-inside
invariant_of-self-inside c =
    rings_prefix _ _ _ _ _ _ _ c.self-inside.invariant (search rules) (search rules) (search rules) c.truncate_front.ensures c.truncate_front-2.ensures
