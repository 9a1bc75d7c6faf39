use Rattle.assise_private_log.proofs.Common.{◌≡◌, ◌++◌, with_group}
use Rattle.assise_private_log.proofs.log.Log.append_group.Given as goal

-- the log has the first of the group
abbrev pub invariant-loop-record : goal.invariant-loop-record
invariant-loop-record l = record {
  log : l.self ≡ with_group l.fn.self l.yielded;
  items : l.yielded ++ l.record-iterator.rest.items ≡ l.fn.group;
}
