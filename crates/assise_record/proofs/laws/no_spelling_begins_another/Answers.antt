use Rattle.assise_record.proofs.Shared.Unique.{no_more}
use Rattle.assise_record.proofs.laws.no_spelling_begins_another.Goals as goal

pub returns : goal.returns
returns c = no_more
