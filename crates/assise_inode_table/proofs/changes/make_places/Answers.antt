use Rattle.assise_inode_table.proofs.Common.{◌∙◌, ap, sym, placed_one}
use Rattle.assise_inode_table.proofs.Shared.MapChanges.{one_more_placed}
use Rattle.assise_inode_table.proofs.changes.make_places.Goals as goal

pub loop-change-preserved : goal.loop-change-preserved
loop-change-preserved g c =
    record {
      placed = c.in_default.ensures.ok ∙ ap (λ m. placed_one m c.change-item.result.inode) c.loop-change.invariant.placed
          ∙ sym (one_more_placed (g.S.Inodes.contents c.args.store.now) c.args.changes.now c.loop-change.change-index c.change-item.result
          c.loop-change-test.true c.change-item.is);
      noted = c.in_default.ensures.noted ∙ c.loop-change.invariant.noted;
      setting = c.make_place.ensures.setting ∙ c.loop-change.invariant.setting;
    }
