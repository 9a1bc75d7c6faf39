use Rattle.assise_machine_state.proofs.Common.{◌≡◌, ◌++◌, take, all_effects, touched, records_from}
use Rattle.assise_machine_state.proofs.touching.push_touched_from.Given as goal

-- what was added are the inodes of the prefix of the records
abbrev pub invariant-loop-record : goal.invariant-loop-record
invariant-loop-record l =
    l.inodes.items ++ touched (all_effects (take l.record-iterator.n l.record-iterator.iter)) ≡ l.fn.inodes.items ++ touched
    (all_effects (take l.count (records_from l.log l.from)))
