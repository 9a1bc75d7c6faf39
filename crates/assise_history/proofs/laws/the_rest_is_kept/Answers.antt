use Rattle.assise_history.proofs.Shared.Lost.{kept_exactly, kept-append}
use Rattle.assise_history.proofs.Shared.Runs.{kept-push}
use Rattle.assise_history.proofs.laws.the_rest_is_kept.Goals as goal

pub returns : goal.returns
returns c = record { exactly = kept_exactly; parts = kept-append; one_more = kept-push }
