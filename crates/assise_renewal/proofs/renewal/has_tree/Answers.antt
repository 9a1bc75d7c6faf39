use Rattle.assise_renewal.proofs.Common.{rules}
use Rattle.assise_renewal.proofs.renewal.has_tree.Goals as goal

pub returns-clause-up : goal.returns-clause-up
returns-clause-up g c = λ yes. c.are_up.ensures (search rules)
