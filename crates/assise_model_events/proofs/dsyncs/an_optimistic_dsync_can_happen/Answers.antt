use Rattle.assise_model_events.proofs.Shared.Regroupable.{can_regroup, coalesced_can, coalescing_synced}
use Rattle.assise_model_events.proofs.dsyncs.an_optimistic_dsync_can_happen.Goals as goal

pub returns : goal.returns
returns c = record {
  regroups = λ w d h lives some. (let (u, t) = can_regroup w d h lives some in (u, t.0));
  coalesced = coalesced_can;
  synced = coalescing_synced;
}
