use Rattle.assise_inode_table.proofs.Shared.MapChanges.{made_on_copies}
use Rattle.assise_inode_table.proofs.changes.apply_all_on_copies.Goals as goal

pub returns-clause-ok : goal.returns-clause-ok
returns-clause-ok g c =
    made_on_copies (g.S.Inodes.contents c.args.store.now) (g.S.Inodes.contents c.put_all.new.store) c.in_ok-changes.changes.items c.args.effects.now
    c.in_ok-changes.ensures.values c.in_ok-put_all.ensures.ok
