use Rattle.assise_inode_table.proofs.EffectOverrides.{same_net, same_touch}
use Rattle.assise_inode_table.proofs.laws.what_is_overridden_counts_for_nothing.Goals as goal

pub returns-clause-net : goal.returns-clause-net
returns-clause-net c = same_net

pub returns-clause-touch : goal.returns-clause-touch
returns-clause-touch c = same_touch
