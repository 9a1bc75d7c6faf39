use Rattle.assise_machine.proofs.Common.{◌∙◌, sym}
use Rattle.assise_machine.proofs.Alone.{if_ok_from}
use Rattle.assise_machine.proofs.Shared.Replicated.{replicated_seen}
use Rattle.assise_machine.proofs.cluster.ClusterOf.replicated_to.Goals as goal

pub returns-clause-replicated : goal.returns-clause-replicated
returns-clause-replicated g c =
    if_ok_from c.replicated_to.result _ (λ count is. (rw is at c.replicated_to.ensures.replicated) ∙ sym (replicated_seen c.args.self.now c.args.client))
