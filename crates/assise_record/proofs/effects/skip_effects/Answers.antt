use Rattle.assise_record.proofs.Common.{ap, err_from_is_err_and, many_at, effect_at, rest_of}
use Rattle.assise_record.proofs.Loop.{effects_are_many, skip_goes_on, skip_stops, skip_is_done}
use Rattle.assise_record.proofs.effects.skip_effects.Goals as goal

pub returns-in_err-after : goal.returns-in_err-after
returns-in_err-after c =
    let p = err_from_is_err_and c.from_residual.result c.from_residual.ensures.1 in
    let total = rest_of (many_at effect_at c.args.count c.args.bytes.now) in
    rw (p.1, p.2) (skip_stops _ _ _ _ effects_are_many c.in_err-after.field-0.0 c.args.count c.loop.counter c.loop.rest.now total c.loop-test.true
    (ap rest_of c.in_err-after.ensures.read) c.loop.invariant)

pub loop-preserved : goal.loop-preserved
loop-preserved c =
    let total = rest_of (many_at effect_at c.args.count c.args.bytes.now) in
    skip_goes_on _ _ _ _ effects_are_many c.args.count c.loop.counter c.loop.rest.now c.in_ok-after.after.now total c.loop-test.true
    (ap rest_of c.in_ok-after.ensures.read) c.loop.invariant

pub returns : goal.returns
returns c =
    let total = rest_of (many_at effect_at c.args.count c.args.bytes.now) in
    skip_is_done _ _ _ _ effects_are_many c.args.count c.loop.counter c.loop.rest.now total c.loop-test.false c.loop.invariant
