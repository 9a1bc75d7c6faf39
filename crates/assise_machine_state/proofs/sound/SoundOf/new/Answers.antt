use Rattle.assise_machine_state.proofs.Common.{subst, sym, MachineInvariant}
use Rattle.assise_model_events.proofs.Shared.StartKeeps.{begun_holds}
use Rattle.assise_machine_state.proofs.sound.SoundOf.new.Goals as goal

pub invariant_of-result : goal.invariant_of-result
invariant_of-result g c = record {
  invariant = record {
    holds = ∣ subst MachineInvariant (sym c.in_ok-new.ensures.begun)
        (begun_holds c.args.nodes c.args.limit c.args.hot_capacity c.requires.some_nodes) ∣₁;
    shape =
        c.in_ok-new.ensures.shape;
    noted = c.in_ok-new.ensures.noted;
  };
}
