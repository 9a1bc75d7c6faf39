use Rattle.assise_machine.proofs.Common.{◌-◌, drop, subst, AreWhole}
use Rattle.assise_machine.proofs.LogAgrees.{whole_new}
use Rattle.assise_machine.proofs.delivery.is_next.Goals as goal

pub returns-then-is_border-clause-whole : goal.returns-then-is_border-clause-whole
returns-then-is_border-clause-whole g c all =
    subst AreWhole (λ i. drop (c.args.received - c.first.ensures.first i) (c.records-2.ensures.records i))
    (whole_new c.own_log-own.result.now c.args.received (c.args.received - c.first.result) c.records-2.result.now c.own_log-own.ensures.whole
    (c.goes_on_with.ensures.same all))
