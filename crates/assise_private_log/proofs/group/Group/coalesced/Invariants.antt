use Rattle.assise_private_log.proofs.Common.{◌≡◌, ◌++◌, length, AllHaveEffects, begun_by, coalesced_group, left_in}
use Rattle.assise_private_log.proofs.group.Group.coalesced.Given as goal

-- what was left so far, and of the rest
abbrev pub invariant-loop-record : goal.invariant-loop-record
invariant-loop-record l = record {
  left : begun_by l.begin.call (l.records.items ++ left_in l.rest) ≡ coalesced_group l.group;
  begun : begun_by l.begin.call l.records.items ≡ l.records.items;
  effects : AllHaveEffects l.rest → AllHaveEffects l.group;
}

abbrev pub decreases-loop-record : goal.decreases-loop-record
decreases-loop-record l = length l.rest
