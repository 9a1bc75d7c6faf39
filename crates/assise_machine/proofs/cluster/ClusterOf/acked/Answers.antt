use Rattle.assise_machine.proofs.Common.{◌∙◌, sym}
use Rattle.assise_machine.proofs.Alone.{if_ok_from}
use Rattle.assise_machine.proofs.Shared.Replicated.{acked_seen}
use Rattle.assise_machine.proofs.cluster.ClusterOf.acked.Goals as goal

pub returns-clause-seen : goal.returns-clause-seen
returns-clause-seen g c =
    if_ok_from c.acked.result _ (λ place is. (rw is at c.acked.ensures.acked) ∙ sym (acked_seen c.args.self.now c.args.client))
