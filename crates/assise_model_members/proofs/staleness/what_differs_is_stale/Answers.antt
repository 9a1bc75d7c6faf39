use Rattle.assise_model_members.proofs.Shared.StaleInodes.{differing_is_stale}
use Rattle.assise_model_members.proofs.staleness.what_differs_is_stale.Goals as goal

pub returns : goal.returns
returns c = differing_is_stale
