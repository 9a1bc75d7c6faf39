use Rattle.assise_digest.proofs.Common.{◌≡◌, ◌+◌, ◌∙◌, ap, sym, subst, drop, refl, touched_by, KeepsNoMore, all_held, forgotten, held}
use Rattle.assise_digest.proofs.KeptInodes.{forgotten_again, held_no_more, left_after, nothing_forgotten, touched_item}
use Rattle.assise_digest.proofs.pending.Pending.make.Goals as goal

pub loop-effect-init : goal.loop-effect-init
loop-effect-init c = record { no_more = c.requires.no_more; held = refl; back = nothing_forgotten c.args.self.now c.args.number c.args.effects.now }

pub loop-effect-preserved : goal.loop-effect-preserved
loop-effect-preserved c =
    let m = c.args.area.now.inodes in
    let n = c.args.number in
    let es = c.args.effects.now in
    let step : c.hold.new.self ≡ held c.loop-effect.self m n (touched_by c.effect-item.result) = c.in_ok-hold.ensures.ok
    ∙ ap (held c.loop-effect.self m n) c.touches.ensures in
    record {
      no_more = subst KeepsNoMore (sym step) (held_no_more c.loop-effect.self m n (touched_by c.effect-item.result) c.loop-effect.invariant.no_more);
      held = ap (λ p. all_held p m n (drop (c.loop-effect.effect-index + 1) es)) step
          ∙ left_after (all_held c.loop-effect.self m n) es c.loop-effect.effect-index c.effect-item.result c.loop-effect-test.true c.effect-item.is
          ∙ c.loop-effect.invariant.held;
      back = λ fresh. ap (λ p. forgotten p n es) step
          ∙ forgotten_again c.loop-effect.self m n (touched_by c.effect-item.result) es c.loop-effect.invariant.no_more
          (touched_item es c.loop-effect.effect-index c.effect-item.result c.loop-effect-test.true c.effect-item.is)
          ∙ c.loop-effect.invariant.back fresh;
    }
