use Rattle.assise_inode_plan.proofs.Shared.WriteLeases.{LooksAt}
use Rattle.assise_inode_plan.proofs.view.first_unleased.Given as goal

abbrev pub invariant-loop-effect : goal.invariant-loop-effect
invariant-loop-effect g l = LooksAt (g.V.View.leased l.view) l.effects l.effect-index
