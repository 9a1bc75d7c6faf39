use Rattle.assise_chain.proofs.Common.{◌≡◌, ◌++◌, take, records_from}
use Rattle.assise_chain.proofs.messages.copies.Given as goal

-- what was copied is the prefix of the records
abbrev pub invariant-loop-record : goal.invariant-loop-record
invariant-loop-record l = l.copied.items ++ take l.record-iterator.n l.record-iterator.iter ≡ take l.count (records_from l.log l.from)
