use Rattle.assise_digest.proofs.Common.{◌∙◌, ap, sym, cond}
use Rattle.std.specs.FinMap as map
use Rattle.assise_digest.proofs.InodesUnderRecords.{get-overlaid}
use Rattle.assise_digest.proofs.overlay.OverlayInodes.get.Goals as goal

pub returns-then-has : goal.returns-then-has
returns-then-has c =
    let m = c.self.inside.area.now.inodes in
    let p = c.self.inside.pending.now in
    c.get.ensures ∙ ap (λ b. cond b (map.get p.inodes c.args.inode) (map.get m c.args.inode)) (sym c.if-has.true ∙ c.has.ensures)
    ∙ sym (get-overlaid m p c.args.inode) ∙ ap (λ n. map.get n c.args.inode) c.self.view_is

pub returns : goal.returns
returns c =
    let m = c.self.inside.area.now.inodes in
    let p = c.self.inside.pending.now in
    c.peek.ensures ∙ ap (λ b. cond b (map.get p.inodes c.args.inode) (map.get m c.args.inode)) (sym c.if-has.false ∙ c.has.ensures)
    ∙ sym (get-overlaid m p c.args.inode) ∙ ap (λ n. map.get n c.args.inode) c.self.view_is
