use Rattle.assise_mail.proofs.Common.{le_refl}
use Rattle.assise_machine.specs.Headline.{history_of, replicated_to}
use Rattle.assise_mail.proofs.Synced.{delivery_stays}
use Rattle.assise_mail.proofs.laws.a_delivered_message_is_at_each_node.Goals as goal

pub returns : goal.returns
returns g c = λ draft place message d n up.
    let bound = replicated_to c.args.cluster.now in (
      c.headline.ensures.alone n up,
      delivery_stays (history_of c.args.cluster.now) bound draft place message c.headline.ensures.legal c.headline.ensures.synced d
          (c.headline.ensures.unseen bound (λ client. le_refl (bound client))),
    )
