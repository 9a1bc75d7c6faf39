use Rattle.assise_record.proofs.Common.{err_from_is_err_and, records_at, rest_of}
use Rattle.assise_record.proofs.Loop.{records_are_many, skip_goes_on, skip_stops, skip_is_done}
use Rattle.assise_record.proofs.decode.skip_records.Goals as goal

pub returns-in_err-rest : goal.returns-in_err-rest
returns-in_err-rest c =
    let p = err_from_is_err_and c.from_residual.result c.from_residual.ensures.1 in
    let total = rest_of (records_at c.args.marked c.args.count c.args.bytes.now) in
    rw (p.1, p.2) (skip_stops _ _ _ _ (records_are_many c.args.marked) c.in_err-rest.field-0.0 c.args.count c.loop-read.read c.loop-read.rest.now total
    c.loop-read-test.true c.in_err-rest.ensures c.loop-read.invariant)

pub loop-read-preserved : goal.loop-read-preserved
loop-read-preserved c =
    let total = rest_of (records_at c.args.marked c.args.count c.args.bytes.now) in
    skip_goes_on _ _ _ _ (records_are_many c.args.marked) c.args.count c.loop-read.read c.loop-read.rest.now c.in_ok-rest.rest.now total c.loop-read-test.true
    c.in_ok-rest.ensures c.loop-read.invariant

pub returns : goal.returns
returns c =
    let total = rest_of (records_at c.args.marked c.args.count c.args.bytes.now) in
    skip_is_done _ _ _ _ (records_are_many c.args.marked) c.args.count c.loop-read.read c.loop-read.rest.now total c.loop-read-test.false c.loop-read.invariant
