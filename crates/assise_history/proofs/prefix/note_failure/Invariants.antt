use Rattle.assise_history.proofs.Common.{◌≡◌, ◌++◌, map, take, drop, with_failure}
use Rattle.assise_history.proofs.prefix.note_failure.Given as goal

abbrev pub invariant-loop-k : goal.invariant-loop-k
invariant-loop-k l = l.clients ≡ map (with_failure l.node) (take l.k-index l.initial.clients) ++ drop l.k-index l.initial.clients
