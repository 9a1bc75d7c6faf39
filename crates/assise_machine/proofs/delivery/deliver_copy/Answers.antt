use Rattle.assise_machine.proofs.Common.{◌∙◌, ap, unwrap_or, machine_of}
use Rattle.assise_machine.proofs.DeliveryCopy.{not_delivered}
use Rattle.assise_machine.proofs.delivery.deliver_copy.Goals as goal

pub returns-in-Err-clause-happens : goal.returns-in-Err-clause-happens
returns-in-Err-clause-happens g c =
    not_delivered (machine_of c.args.sound.now.state) c.args.frame.now c.args.node c.frame_refusal.result c.unwrap_or.result c.in-Err.lack
    c.in-Err.ensures.only_memory
    (assumption c.frame_refusal.ensures)
    (λ r is. c.unwrap_or.ensures ∙ ap (λ o. unwrap_or o c.in-Err.lack) is) (λ is. c.unwrap_or.ensures ∙ ap (λ o. unwrap_or o c.in-Err.lack) is)
