use Rattle.assise_digest.proofs.Common.{◌+◌, ◌∙◌, ap, sym, subst, drop, IsSome, HasAllNumbers, last_noted}
use Rattle.std.specs.FinMap as map
use Rattle.assise_digest.proofs.KeptInodes.{left_after, set_has, touched_item}
use Rattle.assise_digest.proofs.pending.note.Goals as goal

pub set-requires : goal.set-requires
set-requires c =
    record {
      there = subst (λ i. IsSome (map.get c.loop-effect.last i)) (sym c.touches.ensures)
          (c.loop-effect.invariant.there _
          (touched_item c.args.effects.now c.loop-effect.effect-index c.effect-item.result c.loop-effect-test.true c.effect-item.is));
    }

pub loop-effect-preserved : goal.loop-effect-preserved
loop-effect-preserved c =
    record {
      there = subst (λ l. HasAllNumbers l c.args.effects.now) (sym c.set.ensures)
          (set_has c.loop-effect.last c.touches.result c.args.number c.args.effects.now c.loop-effect.invariant.there);
      noted = ap (λ l. last_noted l c.args.number (drop (c.loop-effect.effect-index + 1) c.args.effects.now))
          (c.set.ensures ∙ ap (λ i. map.insert c.loop-effect.last i c.args.number) c.touches.ensures)
          ∙ left_after (last_noted c.loop-effect.last c.args.number) c.args.effects.now c.loop-effect.effect-index c.effect-item.result c.loop-effect-test.true
          c.effect-item.is
          ∙ c.loop-effect.invariant.noted;
    }
