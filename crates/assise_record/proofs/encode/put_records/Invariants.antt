use Rattle.assise_record.proofs.Common.{take, AllByRecursion, Appends, IsLogRecord, body_of}
use Rattle.assise_record.proofs.encode.put_records.Given as goal

abbrev pub invariant-loop-place : goal.invariant-loop-place
invariant-loop-place l = record {
  appended : Appends l.fn.out l.out (body_of (take l.place l.records) (take l.place l.last));
  lawful : AllByRecursion IsLogRecord (take l.place l.records);
}
