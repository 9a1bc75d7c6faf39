use Rattle.assise_model_events.proofs.Shared.CallKeeps.{calling_holds, calling_keeps}
use Rattle.assise_model_events.proofs.clients.a_call_keeps_the_invariant.Goals as goal

pub returns-clause-leads : goal.returns-clause-leads
returns-clause-leads r = λ m m' c op a h other e. (calling_holds m m' c op a h other e).0

pub returns-clause-keeps : goal.returns-clause-keeps
returns-clause-keeps r = λ m m' c op a h other e. calling_keeps m m' c op a h other e
