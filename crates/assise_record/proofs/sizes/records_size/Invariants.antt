use Rattle.assise_record.proofs.Common.{◌≡◌, ◌*◌, ◌≤◌, length, take, None, flat_map, record_spelling}
use Rattle.assise_record.proofs.sizes.records_size.Given as goal

abbrev pub invariant-loop-record : goal.invariant-loop-record
invariant-loop-record l = record {
  size : l.size ≡ length (flat_map (record_spelling None) (take l.record-index l.records));
  few : l.size ≤ l.record-index * 262221;
}
