use Rattle.assise_names.proofs.AscendingNames.{AscendTo}
use Rattle.assise_names.proofs.name_list.NameList.ascend.Given as goal

abbrev pub invariant-loop-i : goal.invariant-loop-i
invariant-loop-i l = AscendTo l.names l.i
