use Rattle.assise_fault_script.proofs.Common.{◌∙◌, ap, Err}
use Rattle.assise_fault_script.proofs.Rows.{spelled}
use Rattle.assise_fault_script.proofs.recent_paths.parsed.Goals as goal

pub returns-in-Err-Memory : goal.returns-in-Err-Memory
returns-in-Err-Memory c = spelled c.args.word.now (c.parse.ensures.memory (c.in-Err-Memory.is ∙ ap Err c.in-Err-Memory.field-0-is))
