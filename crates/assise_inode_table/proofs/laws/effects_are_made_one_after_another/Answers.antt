use Rattle.assise_inode_table.proofs.Shared.EffectValues.{value_after-append, untouched, get-applied}
use Rattle.assise_inode_table.proofs.laws.effects_are_made_one_after_another.Goals as goal

-- src/laws.rt
pub returns-clause-lists : goal.returns-clause-lists
returns-clause-lists c = value_after-append

pub returns-clause-untouched : goal.returns-clause-untouched
returns-clause-untouched c = untouched

pub returns-clause-maps : goal.returns-clause-maps
returns-clause-maps c = get-applied
