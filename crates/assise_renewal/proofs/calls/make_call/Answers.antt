use Rattle.assise_renewal.proofs.Common.{inl, inr, refl, machine, IsThisCall}
use Rattle.assise_renewal.proofs.Led.{led_settled}
use Rattle.assise_renewal.proofs.calls.make_call.Goals as goal

pub returns : goal.returns
returns g c =
    led_settled (IsThisCall c.args.client c.args.op.now) _ c.args.client c.args.op.now (refl, inl refl) (refl, inr refl) c.args.turns c.settle_call.result
    (machine c.args.cluster.now) (machine c.settle_call.new.cluster) c.settle_call.ensures.tries
