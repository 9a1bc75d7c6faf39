use Rattle.assise_inode_table.proofs.Common.{◌≡◌, ◌∷◌, List, ◌-◌, length, take, drop, ◌∙◌, ap, sym, subst, arith, take_all, Effect, all_applied, applied}
use Rattle.assise_inode_table.proofs.Common.{OnlyFirstAsks}
use Rattle.assise_inode_table.proofs.Shared.EffectLists.{first_ahead, one_more_applied, takes_away_at}
use Rattle.assise_inode_table.proofs.whole.apply_in_order.Goals as goal

pub take_away-requires : goal.take_away-requires
take_away-requires g c =
    let es : List Effect = c.args.effects.now in
    let rest : List Effect = take (length es - 1) (drop 1 es) in
    let are : es ≡ c.first-item.result ∷ rest = first_ahead es c.first-item.result c.in-len1-up.len_at_least c.first-item.is in
    record {
      takes_away = takes_away_at rest c.loop-effect.effect-index c.effect-item.result (subst OnlyFirstAsks are c.requires.asks) c.loop-effect-test.true
          c.effect-item.is;
    }

pub loop-effect-preserved : goal.loop-effect-preserved
loop-effect-preserved g c =
    let es : List Effect = c.args.effects.now in
    let rest : List Effect = take (length es - 1) (drop 1 es) in
    record {
      made = c.take_away.ensures.applied ∙ ap (λ m. applied m c.effect-item.result) c.loop-effect.invariant.made
          ∙ sym (one_more_applied (g.S.Inodes.contents c.apply.new.self) rest c.loop-effect.effect-index c.effect-item.result c.loop-effect-test.true
          c.effect-item.is);
      setting = c.take_away.ensures.setting ∙ c.loop-effect.invariant.setting;
    }

pub returns-clause-ok : goal.returns-clause-ok
returns-clause-ok g c =
    let es : List Effect = c.args.effects.now in
    let rest : List Effect = take (length es - 1) (drop 1 es) in
    let are : es ≡ c.first-item.result ∷ rest = first_ahead es c.first-item.result c.in-len1-up.len_at_least c.first-item.is in
    c.loop-effect.invariant.made ∙ ap (all_applied (g.S.Inodes.contents c.apply.new.self))
    (take_all c.loop-effect.effect-index rest (omega (arith, c.loop-effect-test.false)))
    ∙ ap (λ m. all_applied m rest) c.in_ok-apply.ensures.ok ∙ sym (ap (all_applied (g.S.Inodes.contents c.args.store.now)) are)
