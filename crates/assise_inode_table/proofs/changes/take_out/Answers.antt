use Rattle.assise_inode_table.proofs.Common.{◌∙◌}
use Rattle.assise_inode_table.proofs.Shared.MapChanges.{without_last}
use Rattle.assise_inode_table.proofs.changes.take_out.Goals as goal

pub loop-inode-preserved : goal.loop-inode-preserved
loop-inode-preserved g c =
    record {
      left = without_last (g.S.Inodes.contents c.loop-inode.store) (g.S.Inodes.contents c.discard.new.store) c.loop-inode.inodes.items c.pop.new.self.items
          c.in-Some.inode c.in-Some.ensures.items c.discard.ensures.gone
          ∙ c.loop-inode.invariant.left;
      setting = c.discard.ensures.setting ∙ c.loop-inode.invariant.setting;
    }
