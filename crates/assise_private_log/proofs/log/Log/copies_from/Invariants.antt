use Rattle.assise_private_log.proofs.Common.{◌≡◌, ◌++◌, records_from}
use Rattle.assise_private_log.proofs.log.Log.copies_from.Given as goal

-- what was copied is the prefix of the records
abbrev pub invariant-loop-record : goal.invariant-loop-record
invariant-loop-record l = l.copied.items ++ l.record-iterator ≡ records_from l.self l.from
