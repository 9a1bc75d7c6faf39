use Rattle.assise_names.proofs.Common.{◌≡◌, take}
use Rattle.assise_names.proofs.name.copy_names.Given as goal

abbrev pub invariant-loop-name : goal.invariant-loop-name
invariant-loop-name l = l.copied.items ≡ take l.name-index l.names
