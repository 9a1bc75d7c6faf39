use Rattle.assise_record.proofs.RecordLaws.{records_are}
use Rattle.assise_record.proofs.decode.body_at.Goals as goal

pub returns-clause-counted : goal.returns-clause-counted
returns-clause-counted c = (records_are c.args.marked c.args.count c.args.body
    ((c.in_ok-records.records.items, c.in_ok-records.last.items), c.records_at.new.bytes) c.in_ok-records.ensures).0

pub returns-clause-marks : goal.returns-clause-marks
returns-clause-marks c = (records_are c.args.marked c.args.count c.args.body
    ((c.in_ok-records.records.items, c.in_ok-records.last.items), c.records_at.new.bytes) c.in_ok-records.ensures).1
