use Rattle.assise_record.proofs.Shared.Unique.{one_text, one_frame}
use Rattle.assise_record.proofs.laws.one_spelling.Goals as goal

pub returns-clause-spelling : goal.returns-clause-spelling
returns-clause-spelling c = one_text

pub returns-clause-frame : goal.returns-clause-frame
returns-clause-frame c = one_frame
