use Rattle.assise_inode_table.proofs.Common.{◌∙◌, ap, placed}
use Rattle.assise_inode_table.proofs.Shared.MapChanges.{all_left, next_left, next_there}
use Rattle.assise_inode_table.proofs.changes.put_all.Goals as goal

pub loop-change-init : goal.loop-change-init
loop-change-init g c =
    record {
      left = all_left (g.S.Inodes.contents c.args.store.now) (g.S.Inodes.contents c.make_places.new.store) c.args.changes.items c.requires.distinct
          (c.in_ok-make_places.ensures.ok ∙ ap (placed (g.S.Inodes.contents c.args.store.now)) c.as_slice.ensures.value);
      setting = c.make_places.ensures.setting;
    }

pub put_value-requires : goal.put_value-requires
put_value-requires g c =
    record {
      there = next_there (g.S.Inodes.contents c.args.store.now) (g.S.Inodes.contents c.loop-change.store) c.args.changes.items c.loop-change.changes.items
          c.pop.new.self.items c.in-Some.change
          c.loop-change.invariant.left c.in-Some.ensures.items;
    }

pub loop-change-preserved : goal.loop-change-preserved
loop-change-preserved g c =
    record {
      left = next_left (g.S.Inodes.contents c.args.store.now) (g.S.Inodes.contents c.loop-change.store) (g.S.Inodes.contents c.put_value.new.store)
          c.args.changes.items c.loop-change.changes.items c.pop.new.self.items c.in-Some.change
          c.loop-change.invariant.left c.in-Some.ensures.items c.put_value.ensures.value;
      setting = c.put_value.ensures.setting ∙ c.loop-change.invariant.setting;
    }
