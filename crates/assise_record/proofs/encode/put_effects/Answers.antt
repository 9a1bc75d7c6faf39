use Rattle.assise_record.proofs.Common.{arith, effect_spelling}
use Rattle.assise_record.proofs.RoomLaws.{item_fits}
use Rattle.assise_record.proofs.encode.put_effects.Goals as goal

pub put_effect-requires : goal.put_effect-requires
put_effect-requires c =
    let left = item_fits effect_spelling c.args.effects.now c.loop-effect.effect-index c.effect-item.result c.loop-effect-test.true c.effect-item.is in
    let written = c.loop-effect.invariant.appended in
    omega (arith, left, written.len, written.capacity, c.requires)
