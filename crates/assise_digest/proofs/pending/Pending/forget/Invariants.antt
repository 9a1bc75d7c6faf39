use Rattle.assise_digest.proofs.Common.{◌≡◌, drop, forgotten}
use Rattle.assise_digest.proofs.pending.Pending.forget.Given as goal

abbrev pub invariant-loop-effect : goal.invariant-loop-effect
invariant-loop-effect l = forgotten l.self l.number (drop l.effect-index l.effects) ≡ forgotten l.initial.self l.number l.effects
