use Rattle.assise_history.proofs.Shared.Legality.{legal-prefix, legal-nil}
use Rattle.assise_history.proofs.laws.a_prefix_of_a_legal_history_is_legal.Goals as goal

pub returns : goal.returns
returns c = record { prefix = legal-prefix; none = legal-nil }
