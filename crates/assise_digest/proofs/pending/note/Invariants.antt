use Rattle.assise_digest.proofs.Common.{◌≡◌, drop, HasAllNumbers, last_noted}
use Rattle.assise_digest.proofs.pending.note.Given as goal

abbrev pub invariant-loop-effect : goal.invariant-loop-effect
invariant-loop-effect l =
    record {
      there : HasAllNumbers l.last l.effects;
      noted : last_noted l.last l.number (drop l.effect-index l.effects) ≡ last_noted l.initial.last l.number l.effects;
    }
