use Rattle.assise_record.proofs.Common.{◌≡◌, take}
use Rattle.assise_record.proofs.frame.copies.Given as goal

abbrev pub invariant-loop-record : goal.invariant-loop-record
invariant-loop-record l = l.copied.items ≡ take l.record-index l.records
