use Rattle.assise_chain.proofs.Common.{◌≡◌, ◌-◌, true, get_or, ◌<◌, length, ap, sym, ◌∙◌, Some, arith, is_border, first_sent, frame_of, last_marks, sent}
use Rattle.assise_chain.proofs.RecordPrefixes.{IsCounted, frame_of_none, marked_some, marks_last, marks_length, plain_some, sent_border, sent_first}
use Rattle.assise_chain.proofs.RecordPrefixes.{sent_length}
use Rattle.assise_chain.proofs.messages.message.Goals as goal
use Rattle.assise_chain.proofs.messages.message.Goals.{After-whole_count-count, In_ok-records}

counted : (c : After-whole_count-count) → IsCounted c.args.log.now c.args.from c.args.to c.max-first.result c.min-most.result c.whole_count-count.result
counted c = record { first_is = omega arith; most_is = omega arith; count_is = c.whole_count-count.ensures.count }

long : (c : After-whole_count-count) → length (sent c.args.log.now c.args.from c.args.to) ≡ c.whole_count-count.result
long c = sent_length c.args.log.now c.args.from c.args.to _ _ _ (counted c)

-- the records that were copied are those that are sent
copied : (c : In_ok-records) → c.in_ok-records.records.items ≡ sent c.args.log.now c.args.from c.args.to
copied c =
    c.in_ok-records.ensures.equal
    ∙ sym (sent_first c.args.log.now c.args.from c.args.to _ _ _ (counted (goal.at.In_ok-records c).After-whole_count-count))

as_many : (c : In_ok-records) → length c.in_ok-records.records.items ≡ c.whole_count-count.result
as_many c = ap length (copied c) ∙ long (goal.at.In_ok-records c).After-whole_count-count

pub returns-then-count-eq0-clause-exact : goal.returns-then-count-eq0-clause-exact
returns-then-count-eq0-clause-exact c =
    let none = long (goal.at.returns-then-count-eq0-clause-exact c).After-whole_count-count in
    frame_of_none c.args.marked c.args.epoch c.args.client _ (sent c.args.log.now c.args.from c.args.to) _ (omega (arith, none))

pub returns-in_err-records-clause-nothing_asked : goal.returns-in_err-records-clause-nothing_asked
returns-in_err-records-clause-nothing_asked c none =
    absurd (omega (arith, ap length none, long (goal.at.returns-in_err-records-clause-nothing_asked c).After-whole_count-count))

pub returns-then-not-marked-clause-exact : goal.returns-then-not-marked-clause-exact
returns-then-not-marked-clause-exact c =
    let l = c.args.log.now in
    let now = (goal.at.returns-then-not-marked-clause-exact c).In_ok-records in
    let first = (counted (goal.at.In_ok-records now).After-whole_count-count).first_is in
    let marks = last_marks l (first_sent l c.args.from) (length (sent l c.args.from c.args.to)) in
    ap Some c.new.ensures
    ∙ plain_some c.args.epoch c.args.client c.max-first.result c.in_ok-records.records.items marks (omega (arith, as_many now))
    ∙ (λ i. frame_of (sym c.if-not-marked.true i) c.args.epoch c.args.client (first i) (copied now i) marks)

pub with_marks-requires-clause-one_each : goal.with_marks-requires-clause-one_each
with_marks-requires-clause-one_each c =
    ap length c.in_ok-last.ensures.marks ∙ marks_length c.args.log.now c.max-first.result c.whole_count-count.result
    ∙ sym (as_many (goal.at.with_marks-requires-clause-one_each c).In_ok-records)

pub with_marks-requires-clause-whole_groups : goal.with_marks-requires-clause-whole_groups
with_marks-requires-clause-whole_groups c =
    let l = c.args.log.now in
    let now = (goal.at.with_marks-requires-clause-whole_groups c).In_ok-records in
    let all = long (goal.at.In_ok-records now).After-whole_count-count in
    let first = (counted (goal.at.In_ok-records now).After-whole_count-count).first_is in
    let same = as_many now in
    let some : 0 < length (sent l c.args.from c.args.to) = omega (arith, all, c.if-count-eq0.false) in
    ap (λ ms. get_or ms (length c.in_ok-records.records.items - 1) true) c.in_ok-last.ensures.marks
    ∙ marks_last l c.max-first.result c.whole_count-count.result (length c.in_ok-records.records.items) same (omega (arith, all, some))
    ∙ ap (is_border l) (omega (arith, all, first, same)) ∙ sent_border l c.args.from c.args.to some

pub returns-clause-exact : goal.returns-clause-exact
returns-clause-exact c =
    let l = c.args.log.now in
    let now = (goal.at.returns-clause-exact c).In_ok-records in
    let all = long (goal.at.In_ok-records now).After-whole_count-count in
    let first = (counted (goal.at.In_ok-records now).After-whole_count-count).first_is in
    let marks : c.in_ok-last.last.items ≡ last_marks l (first_sent l c.args.from) (length (sent l c.args.from c.args.to)) =
    c.in_ok-last.ensures.marks ∙ (λ i. last_marks l (first i) (sym all i)) in
    ap Some c.with_marks.ensures
    ∙ marked_some c.args.epoch c.args.client c.max-first.result c.in_ok-records.records.items c.in_ok-last.last.items
    (omega (arith, as_many now, c.if-count-eq0.false))
    ∙ (λ i. frame_of (sym c.if-not-marked.false i) c.args.epoch c.args.client (first i) (copied now i) (marks i))
