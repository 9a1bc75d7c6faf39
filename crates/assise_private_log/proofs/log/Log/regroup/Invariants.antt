use Rattle.assise_private_log.proofs.Common.{◌≡◌, ◌++◌, groups_from, with_groups, without_tail}
use Rattle.assise_private_log.proofs.log.Log.regroup.Given as goal

-- the log has the first of the groups
abbrev pub invariant-loop-group : goal.invariant-loop-group
invariant-loop-group l = record {
  log : l.self ≡ with_groups (without_tail l.fn.self l.from) l.yielded;
  items : l.yielded ++ l.group-iterator.rest.items ≡ groups_from l.fn.self l.from;
}
