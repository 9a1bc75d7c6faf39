use Rattle.assise_inode_table.proofs.Common.{◌++◌, ◌∷◌, [], ◌∙◌, ap, sym, arith, take_all, filter, all_applied, applied, leaves_entry}
use Rattle.assise_inode_table.proofs.LinkingFirst.{link_first, one_more_left, one_passed_over}
use Rattle.assise_inode_table.proofs.Shared.EffectLists.{takes_away_at}
use Rattle.assise_inode_table.proofs.whole.apply_link_first.Goals.{then-leaves_entry, else-leaves_entry}
use Rattle.assise_inode_table.proofs.whole.apply_link_first.Goals as goal

pub take_away-requires : goal.take_away-requires
take_away-requires g c = record {
  takes_away = takes_away_at c.args.before.now c.loop-effect.effect-index c.effect-item.result c.requires.take_away c.loop-effect-test.true c.effect-item.is;
}

pub loop-effect-preserved : goal.loop-effect-preserved
loop-effect-preserved g c =
    let linked = applied (g.S.Inodes.contents c.args.store.now) c.args.link.now in
    let leaves = leaves_entry c.in-Link.directory c.in-Link.name in
    elim c.if-leaves_entry.branch [
      | then-leaves_entry w ↦ record {
        made = ap g.S.Inodes.contents w.store-is ∙ w.take_away.ensures.applied ∙ ap (λ m. applied m c.effect-item.result) c.loop-effect.invariant.made
            ∙ sym (one_more_left linked leaves c.args.before.now c.loop-effect.effect-index c.effect-item.result c.loop-effect-test.true c.effect-item.is
            (sym c.leaves_entry.ensures ∙ w.if-leaves_entry.true));
        setting = ap g.S.InodeStore.setting w.store-is ∙ w.take_away.ensures.setting ∙ c.loop-effect.invariant.setting;
      }
      | else-leaves_entry w ↦ record {
        made = ap g.S.Inodes.contents w.store-is ∙ c.loop-effect.invariant.made
            ∙ sym (one_passed_over linked leaves c.args.before.now c.loop-effect.effect-index c.effect-item.result c.loop-effect-test.true c.effect-item.is
            (sym c.leaves_entry.ensures ∙ w.if-leaves_entry.false));
        setting = ap g.S.InodeStore.setting w.store-is ∙ c.loop-effect.invariant.setting;
      }
    ]

pub returns-clause-ok : goal.returns-clause-ok
returns-clause-ok g c =
    let leaves = leaves_entry c.in-Link.directory c.in-Link.name in
    c.loop-effect.invariant.made
    ∙ ap (λ es. all_applied (applied (g.S.Inodes.contents c.args.store.now) c.args.link.now) (filter leaves es))
    (take_all c.loop-effect.effect-index c.args.before.now (omega (arith, c.loop-effect-test.false)))
    ∙ ap (λ link. all_applied (applied (g.S.Inodes.contents c.args.store.now) link) (filter leaves c.args.before.now)) c.in-Link.is
    ∙ sym (link_first c.in-Link.directory c.in-Link.name c.in-Link.inode (g.S.Inodes.contents c.args.store.now) c.args.before.now c.requires.take_away)
    ∙ ap (λ link. all_applied (g.S.Inodes.contents c.args.store.now) (c.args.before.now ++ link ∷ [])) (sym c.in-Link.is)
