use Rattle.assise_manager.proofs.Common.{◌≡◌, map, vec_len, fulls, plains, standing}
use Rattle.assise_manager.proofs.members.Members.new.Given as goal

abbrev pub invariant-loop : goal.invariant-loop
invariant-loop l = (map standing l.nodes.items ≡ fulls l.counter) × (vec_len l.nodes ≡ l.counter) × (l.levels.items ≡ plains l.counter)
