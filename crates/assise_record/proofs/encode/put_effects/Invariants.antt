use Rattle.assise_record.proofs.Common.{take, flat_map, AllByRecursion, Appends, IsEffect, effect_spelling}
use Rattle.assise_record.proofs.encode.put_effects.Given as goal

abbrev pub invariant-loop-effect : goal.invariant-loop-effect
invariant-loop-effect l = record {
  appended : Appends l.fn.out l.out (flat_map effect_spelling (take l.effect-index l.effects));
  lawful : AllByRecursion IsEffect (take l.effect-index l.effects);
}
