use Rattle.assise_machine_state.proofs.Common.{subst, sym, arith, AreDigested}
use Rattle.assise_machine_state.proofs.Shared.Dropped.{found}
use Rattle.assise_machine_state.proofs.dropping.drop_digested.Goals as goal

pub digested-digested-requires : goal.digested-digested-requires
digested-digested-requires g c =
    let next = found _ c.requires.parts.shape c.requires.parts.world c.loop-client.client (omega (arith, c.loop-client.auto.client))
    (omega (arith, c.loop-client-test.true, c.requires.last)) _ c.loop-client.invariant.drops in
    record { client = next.client; shape = next.shape }

pub drop_fronts-requires-clause-digested : goal.drop_fronts-requires-clause-digested
drop_fronts-requires-clause-digested g c =
    let next = found _ c.requires.parts.shape c.requires.parts.world c.loop-client.client (omega (arith, c.loop-client.auto.client))
    (omega (arith, c.loop-client-test.true, c.requires.last)) _ c.loop-client.invariant.drops in
    subst (λ to. AreDigested c.loop-client.state.nodes c.loop-client.client to) (sym c.digested-digested.ensures) next.digested
