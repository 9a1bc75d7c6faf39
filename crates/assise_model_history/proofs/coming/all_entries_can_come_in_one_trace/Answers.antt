use Rattle.assise_model_history.proofs.Eventful.{eventful}
use Rattle.assise_model_history.proofs.coming.all_entries_can_come_in_one_trace.Goals as goal

pub returns : goal.returns
returns c = eventful
