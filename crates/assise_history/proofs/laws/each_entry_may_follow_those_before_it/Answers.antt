use Rattle.assise_history.proofs.Shared.OneMore.{legal_parts}
use Rattle.assise_history.proofs.laws.each_entry_may_follow_those_before_it.Goals as goal

pub returns : goal.returns
returns c = λ h. legal_parts h
