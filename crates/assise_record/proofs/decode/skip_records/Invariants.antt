use Rattle.assise_record.proofs.Common.{◌≡◌, ◌-◌, records_at, rest_of}
use Rattle.assise_record.proofs.decode.skip_records.Given as goal

abbrev pub invariant-loop-read : goal.invariant-loop-read
invariant-loop-read l = rest_of (records_at l.marked (l.count - l.read) l.rest) ≡ rest_of (records_at l.marked l.count l.bytes)
