use Rattle.assise_inode_table.proofs.Common.{◌≡◌, take, filter, all_applied, applied, leaves_entry}
use Rattle.assise_inode_table.proofs.whole.apply_link_first.Given as goal

abbrev pub invariant-loop-effect : goal.invariant-loop-effect
invariant-loop-effect g l =
    record {
      made : g.S.Inodes.contents l.store ≡ all_applied (applied (g.S.Inodes.contents l.fn.store) l.link)
          (filter (leaves_entry l.directory l.name) (take l.effect-index l.before));
      setting : g.S.InodeStore.setting l.store ≡ g.S.InodeStore.setting l.fn.store;
    }
