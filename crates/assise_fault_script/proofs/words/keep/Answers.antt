use Rattle.assise_fault_script.proofs.Spaces.{full}
use Rattle.assise_fault_script.proofs.words.keep.Goals as goal

pub returns-then-is_full : goal.returns-then-is_full
returns-then-is_full c = full c.args.words.now.items _ c.if-is_full.ensures.value
