use Rattle.assise_record.proofs.Common.{◌≡◌, take}
use Rattle.assise_record.proofs.record.copies.Given as goal

abbrev pub invariant-loop-effect : goal.invariant-loop-effect
invariant-loop-effect l = l.copied.items ≡ take l.effect-index l.effects
