use Rattle.assise_inode_table.proofs.Common.{◌≡◌, take, all_applied}
use Rattle.assise_inode_table.proofs.whole.apply_in_order.Given as goal

abbrev pub invariant-loop-effect : goal.invariant-loop-effect
invariant-loop-effect g l =
    record {
      made : g.S.Inodes.contents l.store ≡ all_applied (g.S.Inodes.contents l.initial.store) (take l.effect-index l.rest);
      setting : g.S.InodeStore.setting l.store ≡ g.S.InodeStore.setting l.fn.store;
    }
