use Rattle.assise_machine_state.proofs.Common.{◌<◌, refl, arith, value_of}
use Rattle.assise_machine_state.proofs.Shared.Fullness.{client_number, number_client}
use Rattle.assise_machine_state.proofs.sound.SoundOf.check_client.Goals as goal
use Rattle.assise_machine_state.proofs.sound.SoundOf.check_client.Goals.{then-client-eq0-via-then-client-eq0}
use Rattle.assise_machine_state.proofs.sound.SoundOf.check_client.Goals.{then-client-eq0-via-else-client-eq0+then-client-len}

pub returns-then-client-eq0-clause-ok : goal.returns-then-client-eq0-clause-ok
returns-then-client-eq0-clause-ok g c = (
  (λ no. absurd (cc no)),
  (λ is.
      let there = client_number (value_of c.args.self.now.state) c.args.client is in
      elim c.then-client-eq0.branch [
        | then-client-eq0-via-then-client-eq0 w ↦ absurd (omega (arith, there.some, w.if-client-eq0.true))
        | then-client-eq0-via-else-client-eq0+then-client-len w ↦ absurd (omega (arith, there.there, w.len.ensures, w.if-client-len.true))
      ]),
)

pub returns-clause-ok : goal.returns-clause-ok
returns-clause-ok g c = (
  (λ yes. number_client (value_of c.args.self.now.state) c.args.client (let some : 0 < c.args.client = omega (arith, c.if-client-eq0.false) in
      record { some = some; there = rw (← c.len.ensures) c.if-client-len.false })),
  (λ is. refl),
)
