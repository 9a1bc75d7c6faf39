use Rattle.assise_chain.proofs.RecordPrefixes.{sent_border, some_sent}
use Rattle.assise_chain.proofs.laws.what_is_sent_is_whole_groups.Goals as goal

pub returns-clause-border : goal.returns-clause-border
returns-clause-border c = sent_border

pub returns-clause-some : goal.returns-clause-some
returns-clause-some c = some_sent
