use Rattle.assise_model_events.proofs.Shared.SyncKeeps.{syncing_leads, syncing_keeps}
use Rattle.assise_model_events.proofs.clients.a_sync_keeps_the_invariant.Goals as goal

pub returns-clause-leads : goal.returns-clause-leads
returns-clause-leads r = λ m m' c op u a sync h e. syncing_leads m m' c op u a sync h e

pub returns-clause-keeps : goal.returns-clause-keeps
returns-clause-keeps r = λ m m' c op u a sync h e. syncing_keeps m m' c op u a sync h e
