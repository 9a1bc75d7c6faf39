use Rattle.assise_private_log.proofs.Common.{◌≡◌, ◌++◌, length, map, AllHaveEffects, coalesced_group, groups_of, groups_from, records_from}
use Rattle.assise_private_log.proofs.log.Log.groups_from.Given as goal

-- the groups so far, and those of the rest
abbrev pub invariant-loop-rest : goal.invariant-loop-rest
invariant-loop-rest l = record {
  groups : l.groups.items ++ map coalesced_group (groups_of (length l.rest) l.rest) ≡ groups_from l.self l.from;
  effects : AllHaveEffects l.rest → AllHaveEffects (records_from l.self l.from);
}

abbrev pub decreases-loop-rest : goal.decreases-loop-rest
decreases-loop-rest l = length l.rest
