use Rattle.assise_machine.proofs.Common.{◌≡◌, ◌+◌, ◌∙◌, length, take, ap, sym, subst, true≢false, option_copied, records_from}
use Rattle.assise_record.proofs.Shared.Equality.{records_decided}
use Rattle.assise_machine.proofs.LogAgrees.{first_agrees, goes_on, more_agrees, nothing_agrees, nothing_there, rest_agrees}
use Rattle.assise_machine.proofs.delivery.+goes_on_with.Goals as goal

pub returns-then-eq-clause-same : goal.returns-then-eq-clause-same
returns-then-eq-clause-same t c same =
    let l = c.args.log.now in
    let is = goes_on l c.args.from c.in-Some-get.own.now c.requires.begun (sym (ap option_copied c.in-Some-get.is) ∙ c.get.ensures) in
    let alike = (records_decided c.in-Some-get.own.now c.in-Some.first.now).0 (sym c.eq.ensures ∙ c.if-eq.true) in
    subst (λ rs. take (length rs) (records_from l c.args.from) ≡ rs) (sym c.in-Some.ensures.cases.0)
    (more_agrees (records_from l c.args.from) (records_from l (c.args.from + 1)) c.in-Some.rest.now c.in-Some-get.own.now c.in-Some.first.now is alike
    (c.goes_on_with.ensures.same same))

pub returns-then-eq-clause-other : goal.returns-then-eq-clause-other
returns-then-eq-clause-other t c false_now all =
    let l = c.args.log.now in
    let is = goes_on l c.args.from c.in-Some-get.own.now c.requires.begun (sym (ap option_copied c.in-Some-get.is) ∙ c.get.ensures) in
    c.goes_on_with.ensures.other false_now
    (rest_agrees (records_from l c.args.from) (records_from l (c.args.from + 1)) c.in-Some.rest.now c.in-Some-get.own.now c.in-Some.first.now is
    (subst (λ rs. take (length rs) (records_from l c.args.from) ≡ rs) c.in-Some.ensures.cases.0 all))

pub returns-else-eq-clause-other : goal.returns-else-eq-clause-other
returns-else-eq-clause-other t c false_now all =
    let l = c.args.log.now in
    let is = goes_on l c.args.from c.in-Some-get.own.now c.requires.begun (sym (ap option_copied c.in-Some-get.is) ∙ c.get.ensures) in
    let alike =
    first_agrees (records_from l c.args.from) (records_from l (c.args.from + 1)) c.in-Some.rest.now c.in-Some-get.own.now c.in-Some.first.now is
    (subst (λ rs. take (length rs) (records_from l c.args.from) ≡ rs) c.in-Some.ensures.cases.0 all)
    in
    true≢false (sym ((records_decided c.in-Some-get.own.now c.in-Some.first.now).1 alike) ∙ sym c.eq.ensures ∙ c.if-eq.false)

pub returns-in-None-clause-other : goal.returns-in-None-clause-other
returns-in-None-clause-other t c false_now all =
    let l = c.args.log.now in
    nothing_agrees (records_from l c.args.from) c.in-Some.rest.now c.in-Some.first.now
    (nothing_there l c.args.from c.requires.begun (sym (ap option_copied c.in-None.is) ∙ c.get.ensures))
    (subst (λ rs. take (length rs) (records_from l c.args.from) ≡ rs) c.in-Some.ensures.cases.0 all)
