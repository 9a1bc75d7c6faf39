use Rattle.assise_fault_script.proofs.Common.{sym}
use Rattle.assise_fault_script.proofs.Lines.{cut, uncut}
use Rattle.assise_fault_script.proofs.words.split_line.Goals as goal

pub returns-in-Some-clause-first : goal.returns-in-Some-clause-first
returns-in-Some-clause-first c = rw c.without_return.ensures (cut c.args.bytes.now c.in-Some.at (sym c.in-Some.ensures)).0

pub returns-in-Some-clause-shorter : goal.returns-in-Some-clause-shorter
returns-in-Some-clause-shorter c = (cut c.args.bytes.now c.in-Some.at (sym c.in-Some.ensures)).1

pub returns-in-None-clause-last : goal.returns-in-None-clause-last
returns-in-None-clause-last c = uncut c.args.bytes.now (sym c.in-None.ensures)
