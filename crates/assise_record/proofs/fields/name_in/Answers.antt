use Rattle.assise_record.proofs.Names.{no_text}
use Rattle.assise_record.proofs.fields.name_in.Goals as goal

pub returns-in_default-clause-read : goal.returns-in_default-clause-read
returns-in_default-clause-read c = no_text c.args.bytes.now c.in_default.ensures.cases.0
