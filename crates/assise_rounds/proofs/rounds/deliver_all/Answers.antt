use Rattle.assise_rounds.proofs.Common.{◌∙◌, refl, ◌≡◌, true, rules, length, ap, arith, perfect, machine}
use Rattle.assise_rounds.proofs.CarriedFrames.{none_carried, one_lost, one_taken}
use Rattle.assise_rounds.proofs.rounds.deliver_all.Goals as goal

pub overflow_add-taken : goal.overflow_add-taken
overflow_add-taken g c = omega (arith, ap length c.in-Some.ensures.steps.0, c.loop-frame.invariant.few)

pub loop-frame-init : goal.loop-frame-init
loop-frame-init g c = record { carried = none_carried (g.L.Link.kind c.args.link.now ≡ perfect) (machine c.args.cluster.now); stays = refl; few = search rules }

pub loop-frame-preserved-then-deliver : goal.loop-frame-preserved-then-deliver
loop-frame-preserved-then-deliver g c =
    let before = c.loop-frame.invariant in
    record {
      carried = one_taken (λ faithful. before.stays ∙ faithful) before.carried c.deliver.ensures.delivers c.if-deliver.true;
      stays = c.deliver.ensures.stays ∙ before.stays;
      few = omega (arith, ap length c.in-Some.ensures.steps.0, before.few);
    }

pub loop-frame-preserved : goal.loop-frame-preserved
loop-frame-preserved g c =
    let before = c.loop-frame.invariant in
    record {
      carried = one_lost (λ faithful. before.stays ∙ faithful) before.carried c.deliver.ensures.delivers c.if-deliver.false;
      stays = c.deliver.ensures.stays ∙ before.stays;
      few = omega (arith, ap length c.in-Some.ensures.steps.0, before.few);
    }
