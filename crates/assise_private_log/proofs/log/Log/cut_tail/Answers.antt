use Rattle.assise_private_log.proofs.Shared.Borders.{rings_tail}
use Rattle.assise_private_log.proofs.log.Log.cut_tail.Goals as goal

pub invariant_of-self-inside : goal.invariant_of-self-inside
invariant_of-self-inside c =
    rings_tail _ c.args.from _ _ _ _ _ c.self-inside.invariant c.saturating_sub-kept.ensures c.truncate_back.ensures c.truncate_back-2.ensures
