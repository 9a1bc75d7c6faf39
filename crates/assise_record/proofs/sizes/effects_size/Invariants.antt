use Rattle.assise_record.proofs.Common.{◌≡◌, ◌*◌, ◌≤◌, length, take, flat_map, effect_spelling}
use Rattle.assise_record.proofs.sizes.effects_size.Given as goal

abbrev pub invariant-loop-effect : goal.invariant-loop-effect
invariant-loop-effect l = record {
  size : l.size ≡ length (flat_map effect_spelling (take l.effect-index l.effects));
  few : l.size ≤ l.effect-index * 65553;
}
