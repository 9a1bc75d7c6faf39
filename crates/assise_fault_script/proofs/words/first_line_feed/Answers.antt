use Rattle.assise_fault_script.proofs.Lines.{first_place}
use Rattle.assise_fault_script.proofs.words.first_line_feed.Goals as goal

pub returns : goal.returns
returns c = first_place c.args.bytes.now c.memchr.result c.memchr.ensures
