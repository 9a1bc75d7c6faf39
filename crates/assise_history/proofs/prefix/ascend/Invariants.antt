use Rattle.assise_history.proofs.Common.{◌≡◌, drop, None, ascend_from}
use Rattle.assise_history.proofs.prefix.ascend.Given as goal

abbrev pub invariant-loop-loss : goal.invariant-loop-loss
invariant-loop-loss l = ascend_from l.before (drop l.loss-index l.losses) ≡ ascend_from None l.losses
