use Rattle.assise_threads.proofs.Common.{◌∙◌, ap, Err}
use Rattle.assise_threads.proofs.WithoutRevoker.{lacks_node, lacks_one}
use Rattle.assise_threads.proofs.main_thread.refusal_without_revoker.Goals as goal

pub returns-in-Ok : goal.returns-in-Ok
returns-in-Ok g c = lacks_one _ c.region.result _ c.in-Ok.is c.region.ensures.ok.0

pub returns-in-Err-WrongPhase : goal.returns-in-Err-WrongPhase
returns-in-Err-WrongPhase g c =
    lacks_node _ c.region.result (c.in-Err-WrongPhase.is ∙ ap Err c.in-Err-WrongPhase.field-0-is) c.region.ensures.fault c.region.ensures.ok.1
