use Rattle.assise_model_events.proofs.Shared.DsyncKeeps.{coalesced_holds, coalesced_leads}
use Rattle.assise_model_events.proofs.EntriesTold.{coalescing_told}
use Rattle.assise_model_events.proofs.dsyncs.an_optimistic_dsync_keeps_the_invariant.Goals as goal

pub returns : goal.returns
returns c = record { told = coalescing_told; leads = coalesced_leads; keeps = coalesced_holds }
