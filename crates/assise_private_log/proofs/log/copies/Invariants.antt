use Rattle.assise_private_log.proofs.Common.{◌≡◌, ◌++◌}
use Rattle.assise_private_log.proofs.log.copies.Given as goal

-- what was copied is the prefix of the ring
abbrev pub invariant-loop-record : goal.invariant-loop-record
invariant-loop-record l = (l.copied.items ++ l.record-iterator ≡ l.records.items) × (l.copied.capacity ≡ l.records.capacity)
