use Rattle.assise_inode_table.proofs.Common.{◌∙◌, ap, rules, map_without}
use Rattle.std.specs.FinMap as map
use Rattle.assise_inode_table.proofs.Shared.MapChanges.{no_content, other_kept, without_new}
use Rattle.assise_inode_table.proofs.changes.make_place.Goals as goal

pub returns-in_err-insert-clause-noted : goal.returns-in_err-insert-clause-noted
returns-in_err-insert-clause-noted g c =
    ap (map_without (g.S.Inodes.contents c.insert.new.self)) c.in_ok-push.ensures.items
    ∙ without_new (g.S.Inodes.contents c.args.store.now) (g.S.Inodes.contents c.insert.new.self) c.args.made.now.items c.args.inode
    c.in_err-insert.ensures.asked (λ j other. ap (λ m. map.get m j) c.in_err-insert.ensures.err)

pub returns-clause-noted : goal.returns-clause-noted
returns-clause-noted g c =
    ap (map_without (g.S.Inodes.contents c.insert.new.self)) c.in_ok-push.ensures.items
    ∙ without_new (g.S.Inodes.contents c.args.store.now) (g.S.Inodes.contents c.insert.new.self) c.args.made.now.items c.args.inode
    (no_content (map.get (g.S.Inodes.contents c.args.store.now) c.args.inode) (search rules))
    (λ j other. other_kept (g.S.Inodes.contents c.args.store.now) (g.S.Inodes.contents c.insert.new.self) c.args.inode _ c.in_ok-insert.ensures.ok j other)
