use Rattle.assise_record.proofs.Common.{Bool, List, [], ◌∷◌, ◌++◌, append_assoc, append-nil, ap₂, sym, option_to_list, err_from_is_err_and, LogRecord}
use Rattle.assise_record.proofs.Common.{records_at}
use Rattle.assise_record.proofs.Loop.{records_are_many, goes_on, ends, is_done}
use Rattle.assise_record.proofs.decode.records_at.Goals as goal

pub returns-in_err-record : goal.returns-in_err-record
returns-in_err-record c =
    let p = err_from_is_err_and c.from_residual-in_err-record.result c.from_residual-in_err-record.ensures.1 in
    let total = records_at c.args.marked c.args.count c.args.bytes.now in
    rw (p.1, p.2) (ends _ _ _ _ (records_are_many c.args.marked) c.in_err-record.field-0.0
    (λ x. (c.loop-read.records.items ++ x.0, c.loop-read.last.items ++ x.1))
    c.args.count c.loop-read.read c.loop-read.bytes total c.loop-read-test.true c.in_err-record.ensures c.loop-read.invariant)

pub loop-read-preserved : goal.loop-read-preserved
loop-read-preserved c =
    let total = records_at c.args.marked c.args.count c.args.bytes.now in
    let item = c.in_ok-record.record in
    let mark = c.in_ok-record.mark in
    let records = c.loop-read.records.items in
    let last = c.loop-read.last.items in
    let on = goes_on _ _ _ _ (records_are_many c.args.marked) (λ x. (records ++ x.0, last ++ x.1))
    (λ x. ((records ++ item ∷ []) ++ x.0, (last ++ option_to_list mark) ++ x.1))
    c.args.count c.loop-read.read c.loop-read.bytes (item, mark) c.record_at.new.bytes total
    (λ x. ap₂ (λ (rs : List LogRecord) (ms : List Bool). (rs, ms)) (sym (append_assoc records (item ∷ []) x.0))
    (sym (append_assoc last (option_to_list mark) x.1)))
    c.loop-read-test.true c.in_ok-record.ensures c.loop-read.invariant in
    rw (c.in_ok-push.ensures.items, c.in_ok-push_mark.ensures.ok) on

pub returns : goal.returns
returns c =
    let total = records_at c.args.marked c.args.count c.args.bytes.now in
    let records = c.loop-read.records.items in
    let last = c.loop-read.last.items in
    is_done _ _ _ _ (records_are_many c.args.marked) (λ x. (records ++ x.0, last ++ x.1)) c.args.count c.loop-read.read c.loop-read.bytes (records, last) total
    (ap₂ (λ (rs : List LogRecord) (ms : List Bool). (rs, ms)) (append-nil records) (append-nil last)) c.loop-read-test.false c.loop-read.invariant
