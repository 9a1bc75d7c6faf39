use Rattle.assise_digest.proofs.Common.{◌≡◌, None, ◌∙◌, ap, sym}
use Rattle.assise_inode_table.proofs.Shared.MapChanges.{no_content}
use Rattle.std.specs.FinMap as map
use Rattle.assise_digest.proofs.KeptInodes.{put_and_removed}
use Rattle.assise_digest.proofs.pending.Pending.hold.Goals as goal

pub returns-in-Err-clause-err : goal.returns-in-Err-clause-err
returns-in-Err-clause-err c =
    let missing : map.get c.args.self.now.last c.args.inode ≡ None = sym c.get.ensures ∙ no_content c.get.result (sym c.is_some.ensures ∙ c.if-is_some.false) in
    let taken = c.discard.ensures ∙ ap (λ m. map.remove m c.args.inode) c.in_ok-set_value.ensures.ok ∙ put_and_removed c.args.self.now.inodes c.args.inode
    c.in_ok-value.value (c.requires.no_more c.args.inode missing) in
    ap (λ m. record { inodes = m; last = c.insert.new.self }) taken ∙ ap (λ l. record { inodes = c.args.self.now.inodes; last = l }) c.in-Err.ensures.err

pub set_value-requires : goal.set_value-requires
set_value-requires c =
    record { none = c.requires.no_more c.args.inode (sym c.get.ensures ∙ no_content c.get.result (sym c.is_some.ensures ∙ c.if-is_some.false)) }
