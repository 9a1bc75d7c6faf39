use Rattle.assise_rounds.proofs.Shared.Traces.{trace_unreplicated}
use Rattle.assise_rounds.proofs.laws.what_is_replicated_stays_replicated.Goals as goal

pub returns : goal.returns
returns c = trace_unreplicated
