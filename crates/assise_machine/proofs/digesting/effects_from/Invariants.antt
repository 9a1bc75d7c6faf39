use Rattle.assise_machine.proofs.Common.{◌≡◌, ◌+◌, ◌*◌, ◌≤◌, length, take, all_effects, records_from}
use Rattle.assise_machine.proofs.digesting.effects_from.Given as goal

-- what was counted are the effects of the prefix of the records, of which each has four at most
abbrev pub invariant-loop-record : goal.invariant-loop-record
invariant-loop-record l =
    (l.effects + length (all_effects (take l.record-iterator.n l.record-iterator.iter)) ≡ length (all_effects (take l.count (records_from l.log l.from))))
    × (l.effects + 4 * l.record-iterator.n ≤ 4 * l.count)
