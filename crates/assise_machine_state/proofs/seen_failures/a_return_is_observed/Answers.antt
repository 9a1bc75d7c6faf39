use Rattle.assise_machine_state.proofs.Shared.JoinObserved.{join_shaped, node_rejoins}
use Rattle.assise_machine_state.proofs.seen_failures.a_return_is_observed.Goals as goal

pub returns : goal.returns
returns r = record {
  rejoins = λ s n since donor stale shape sound lawful stands fine. node_rejoins s n since donor stale shape lawful stands sound fine;
  shape = λ s n since donor stale shape sound lawful stands. join_shaped s n since donor stale shape lawful stands ∣ sound ∣₁;
}
