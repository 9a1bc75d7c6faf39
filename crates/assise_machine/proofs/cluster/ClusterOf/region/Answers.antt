use Rattle.assise_machine.proofs.Common.{refl, value_of}
use Rattle.assise_machine.proofs.Alone.{gives_alone, if_ok_from, same_alone}
use Rattle.assise_machine.proofs.Shared.Replicated.{fine_is_up, up_is_fine}
use Rattle.assise_machine.proofs.cluster.ClusterOf.region.Goals as goal

pub returns-clause-alone : goal.returns-clause-alone
returns-clause-alone g c =
    let sound = c.args.self.now.sound in
    if_ok_from c.region.result _ (λ r is acked all.
    rw (rw is at c.region.ensures.region)
    (gives_alone (value_of sound.state) c.args.node sound.invariant.shape sound.invariant.holds (c.region.ensures.ok.0 (rw is refl)) acked all))

pub returns-clause-observed : goal.returns-clause-observed
returns-clause-observed g c =
    let sound = c.args.self.now.sound in
    if_ok_from c.region.result _ (λ r is acked all.
    rw (rw is at c.region.ensures.region)
    (same_alone (value_of sound.state) c.args.node sound.invariant.shape sound.invariant.holds (c.region.ensures.ok.0 (rw is refl)) acked all))

pub returns-clause-up : goal.returns-clause-up
returns-clause-up g c = (
  λ ok. fine_is_up c.args.self.now c.args.node (c.region.ensures.ok.0 ok),
  λ up. c.region.ensures.ok.1 (up_is_fine c.args.self.now c.args.node up),
)
