use Rattle.assise_rounds.proofs.Common.{◌+◌, refl, sym, subst, arith, machine}
use Rattle.assise_machine.proofs.Shared.Few.{few_clients}
use Rattle.assise_rounds.proofs.Acked.{AreAckedTo, all_acked, no_more_acked, none_acked, not_both, one_acked}
use Rattle.assise_rounds.proofs.trees.all_acked.Goals as goal
use Rattle.assise_rounds.proofs.trees.all_acked.Goals.{in-Ok+in_ok-push, in_default}

pub loop-client-init : goal.loop-client-init
loop-client-init g c =
    let world = (machine c.args.cluster.now).world in
    subst (AreAckedTo world 0) (sym c.new-acked.ensures.items) (none_acked world)

pub loop-client-preserved : goal.loop-client-preserved
loop-client-preserved g c =
    let world = (machine c.args.cluster.now).world in
    let i = c.loop-client.client in
    elim c.match-acked.branch [
      | in-Ok+in_ok-push w ↦ rw w.acked-is
          (subst (AreAckedTo world (i + 1)) (sym w.in_ok-push.ensures.items)
          (one_acked world i w.in-Ok.place c.loop-client.acked.items c.loop-client.invariant (w.in-Ok.ensures.ok.0 refl).1 w.in-Ok.ensures.acked))
      | in_default w ↦ rw w.acked-is
          (no_more_acked world i c.loop-client.acked.items c.loop-client.invariant (λ there. not_both (w.in_default.ensures.ok.1 (omega arith, there))))
    ]

pub returns : goal.returns
returns g c = record {
  acked =
      let world = (machine c.args.cluster.now).world in
      let few = few_clients c.args.cluster.now in
      all_acked world c.loop-client.client c.loop-client.acked.items (omega (arith, few, c.loop-client-test.false)) c.loop-client.invariant;
}
