use Rattle.assise_inode_table.proofs.Shared.CallsRemoved.{tails_trace, tails_run, tails_new, tails_spelled}
use Rattle.assise_inode_table.proofs.laws.tails.Goals as goal

pub returns-clause-run : goal.returns-clause-run
returns-clause-run c = tails_run

pub returns-clause-made : goal.returns-clause-made
returns-clause-made c = tails_new

pub returns-clause-steps : goal.returns-clause-steps
returns-clause-steps c = tails_trace

pub returns-clause-spelled : goal.returns-clause-spelled
returns-clause-spelled c = tails_spelled
