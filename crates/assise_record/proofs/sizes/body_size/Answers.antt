use Rattle.assise_record.proofs.Common.{List, None, length, ap, arith, flat_map, is_marked, LogRecord, record_spelling}
use Rattle.assise_record.proofs.SizeBounds.{body_length, marks_few}
use Rattle.assise_record.proofs.sizes.body_size.Goals as goal

pub returns-clause-size : goal.returns-clause-size
returns-clause-size c =
    let frame = c.args.frame.now in
    let few = marks_few (is_marked frame.version) frame.records frame.last c.last.ensures.ranges.marks in
    let whole = body_length frame.records frame.last few in
    let records = ap (λ (rs : List LogRecord). length (flat_map (record_spelling None) rs)) c.records.ensures.records in
    omega (arith, whole, records, c.records_size.ensures.size, ap length c.last.ensures.last)
