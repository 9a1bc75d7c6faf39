use Rattle.assise_digest.proofs.Common.{◌≡◌, ◌++◌, take}
use Rattle.assise_digest.proofs.received.push_copies.Given as goal

-- the first of them were added
abbrev pub invariant-loop-effect : goal.invariant-loop-effect
invariant-loop-effect l = l.effects.items ≡ l.initial.effects.items ++ take l.effect-index l.added
