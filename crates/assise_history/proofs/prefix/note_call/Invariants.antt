use Rattle.assise_history.proofs.Common.{◌≡◌, ◌++◌, map, take, drop, summary_with_call}
use Rattle.assise_history.proofs.prefix.note_call.Given as goal

abbrev pub invariant-loop-k : goal.invariant-loop-k
invariant-loop-k l = l.clients ≡ map (summary_with_call l.call) (take l.k-index l.initial.clients) ++ drop l.k-index l.initial.clients
