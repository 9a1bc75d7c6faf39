use Rattle.assise_record.proofs.Common.{◌≡◌, ◌+◌, ◌∙◌, List, Option, Bool, ℕ, suc, subst, sym, take, arith, AllByRecursion, Appends, BytesFit, IsLogRecord}
use Rattle.assise_record.proofs.Common.{body_of, record_spelling}
use Rattle.assise_record.proofs.RoomLaws.{Appends-then, body_all, body_then, lawful_then, mark_is, record_fits}
use Rattle.assise_record.proofs.encode.put_records.Goals as goal

pub put_record-requires : goal.put_record-requires
put_record-requires c =
    let place = c.loop-place.place in
    let item = c.index-records-place.result in
    let left = record_fits c.args.records.now c.args.last.now place item c.loop-place-test.true c.index-records-place.is in
    let written = c.loop-place.invariant.appended in
    let mark = c.copied.ensures ∙ mark_is c.args.last.now place c.get.result c.get.ensures.lookup.0 c.get.ensures.lookup.1 in
    subst (λ (m : Option Bool). BytesFit c.loop-place.out (record_spelling m item)) (sym mark) (omega (arith, left, written.len, written.capacity, c.requires))

pub loop-place-preserved : goal.loop-place-preserved
loop-place-preserved c =
    let place = c.loop-place.place in
    let item = c.index-records-place.result in
    let mark = c.copied.ensures ∙ mark_is c.args.last.now place c.get.result c.get.ensures.lookup.0 c.get.ensures.lookup.1 in
    let one = subst (λ (m : Option Bool). Appends c.loop-place.out c.put_record.new.out (record_spelling m item)) mark c.put_record.ensures.appended in
    let more = Appends-then _ _ _ _ _ c.loop-place.invariant.appended one in
    let next : suc place ≡ place + 1 = omega arith in
    let whole = subst (λ (t : List ℕ). Appends c.args.out.now c.put_record.new.out t)
    (sym (body_then c.args.records.now c.args.last.now place item c.loop-place-test.true c.index-records-place.is)) more in
    let lawful = lawful_then c.args.records.now place item c.loop-place-test.true c.index-records-place.is c.loop-place.invariant.lawful
    c.put_record.ensures.lawful in
    record {
      appended = subst (λ (n : ℕ). Appends c.args.out.now c.put_record.new.out (body_of (take n c.args.records.now) (take n c.args.last.now))) next whole;
      lawful = subst (λ (n : ℕ). AllByRecursion IsLogRecord (take n c.args.records.now)) next lawful;
    }

pub returns-clause-appended : goal.returns-clause-appended
returns-clause-appended c =
    subst (λ (t : List ℕ). Appends c.args.out.now c.loop-place.out t) (body_all c.args.records.now c.args.last.now c.loop-place.place c.loop-place-test.false)
    c.loop-place.invariant.appended
