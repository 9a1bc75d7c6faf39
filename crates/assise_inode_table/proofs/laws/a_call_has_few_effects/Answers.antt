use Rattle.assise_inode_table.proofs.Shared.CallEnds.{few_effects, makes_own}
use Rattle.assise_inode_table.proofs.laws.a_call_has_few_effects.Goals as goal

pub returns-clause-few : goal.returns-clause-few
returns-clause-few c = few_effects

pub returns-clause-own : goal.returns-clause-own
returns-clause-own c = makes_own
