use Rattle.assise_machine.proofs.Common.{sym, subst, ∥∥₁_map, IsLegal, observed}
use Rattle.assise_machine.proofs.cluster.ClusterOf.history.Goals as goal

pub returns-clause-legal : goal.returns-clause-legal
returns-clause-legal g c = ∥∥₁_map c.args.self.now.sound.invariant.holds (λ h. subst IsLegal (sym c.history.ensures) h.recorded.legal)

pub returns-clause-seen : goal.returns-clause-seen
unfolding observed
returns-clause-seen g c = c.history.ensures
