use Rattle.assise_machine.proofs.Common.{refl, ∥∥₁_map, value_of}
use Rattle.assise_machine.proofs.Alone.{if_ok_from}
use Rattle.assise_machine.proofs.KnownClients.{known_client}
use Rattle.assise_machine.proofs.cluster.ClusterOf.client.Goals as goal

pub returns-clause-known : goal.returns-clause-known
returns-clause-known g c =
    let sound = c.args.self.now.sound in
    if_ok_from c.client.result _ (λ known is.
    ∥∥₁_map sound.invariant.holds
    (known_client (value_of sound.state) c.args.client known.now (c.client.ensures.ok.0 (rw is refl)) (rw is at c.client.ensures.known)))
