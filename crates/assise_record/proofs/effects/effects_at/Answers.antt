use Rattle.assise_record.proofs.Common.{[], ◌∷◌, ◌++◌, append_assoc, append-nil, sym, err_from_is_err_and, many_at, effect_at}
use Rattle.assise_record.proofs.Loop.{effects_are_many, goes_on, ends, is_done, many_counted}
use Rattle.assise_record.proofs.effects.effects_at.Goals as goal

pub returns-in_err-effect-clause-read : goal.returns-in_err-effect-clause-read
returns-in_err-effect-clause-read c =
    let p = err_from_is_err_and c.from_residual-in_err-effect.result c.from_residual-in_err-effect.ensures.1 in
    let total = many_at effect_at c.args.count c.args.bytes.now in
    let failed = c.in_err-effect.ensures in
    rw (p.1, p.2) (ends _ _ _ _ effects_are_many c.in_err-effect.field-0.0 (λ xs. c.loop.effects.items ++ xs) c.args.count c.loop.counter c.loop.bytes total
    c.loop-test.true failed c.loop.invariant)

pub loop-preserved : goal.loop-preserved
loop-preserved c =
    let total = many_at effect_at c.args.count c.args.bytes.now in
    let effect = c.in_ok-effect.effect in
    let after = c.own_effect_at.new.bytes in
    let read = c.in_ok-effect.ensures in
    let on = goes_on _ _ _ _ effects_are_many (λ xs. c.loop.effects.items ++ xs) (λ xs. (c.loop.effects.items ++ effect ∷ []) ++ xs) c.args.count c.loop.counter
    c.loop.bytes effect after total
    (λ xs. sym (append_assoc c.loop.effects.items (effect ∷ []) xs)) c.loop-test.true read c.loop.invariant in
    rw c.in_ok-push.ensures.items on

pub returns-clause-read : goal.returns-clause-read
returns-clause-read c =
    let total = many_at effect_at c.args.count c.args.bytes.now in
    is_done _ _ _ _ effects_are_many (λ xs. c.loop.effects.items ++ xs) c.args.count c.loop.counter c.loop.bytes c.loop.effects.items total
    (append-nil c.loop.effects.items) c.loop-test.false c.loop.invariant

pub returns-clause-counted : goal.returns-clause-counted
returns-clause-counted c =
    let total = many_at effect_at c.args.count c.args.bytes.now in
    let whole = is_done _ _ _ _ effects_are_many (λ xs. c.loop.effects.items ++ xs) c.args.count c.loop.counter c.loop.bytes c.loop.effects.items total
    (append-nil c.loop.effects.items) c.loop-test.false c.loop.invariant in
    many_counted effect_at c.args.count c.args.bytes.now c.loop.effects.items c.loop.bytes whole
