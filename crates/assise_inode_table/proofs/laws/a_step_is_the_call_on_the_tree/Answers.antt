use Rattle.assise_inode_table.proofs.Shared.CallSteps.{step_replies, step_spells}
use Rattle.assise_inode_table.proofs.laws.a_step_is_the_call_on_the_tree.Goals as goal

pub returns-clause-reply : goal.returns-clause-reply
returns-clause-reply c = step_replies

pub returns-clause-spelled : goal.returns-clause-spelled
returns-clause-spelled c = step_spells
