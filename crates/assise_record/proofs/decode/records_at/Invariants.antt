use Rattle.assise_record.proofs.Common.{◌≡◌, ◌-◌, ◌++◌, records_at}
use Rattle.assise_record.proofs.Loop.{through}
use Rattle.assise_record.proofs.decode.records_at.Given as goal

abbrev pub invariant-loop-read : goal.invariant-loop-read
invariant-loop-read l = through (λ x. (l.records.items ++ x.0, l.last.items ++ x.1)) (records_at l.marked (l.count - l.read) l.bytes)
    ≡ records_at l.marked l.count l.fn.bytes
