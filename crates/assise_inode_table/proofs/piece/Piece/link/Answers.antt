use Rattle.assise_inode_table.proofs.Common.{◌∙◌, arith, ap, sym, get_or, link_or_none}
use Rattle.assise_inode_table.proofs.PieceLinks.{slots_count, link_is}
use Rattle.assise_inode_table.proofs.piece.Piece.link.Goals as goal

pub bounds-self-inside-at : goal.bounds-self-inside-at
bounds-self-inside-at c = omega (arith, slots_count c.self.invariant c.self.view_is, c.requires, c.self.invariant.few)

pub offset_bounds-self-inside-at : goal.offset_bounds-self-inside-at
offset_bounds-self-inside-at c = omega (arith, slots_count c.self.invariant c.self.view_is, c.requires, c.self.invariant.few)

pub bounds-self-inside-at-else-self-at : goal.bounds-self-inside-at-else-self-at
bounds-self-inside-at-else-self-at c = omega (arith, slots_count c.self.invariant c.self.view_is, c.requires, c.self.invariant.few)

pub returns-then-self-at : goal.returns-then-self-at
returns-then-self-at c =
    ap (link_or_none (get_or c.self.inside.links c.args.at 0)) (sym c.if-self-at.true)
    ∙ link_is c.self.invariant c.args.self.now c.args.at c.self.view_is c.requires

pub returns-else-self-at : goal.returns-else-self-at
returns-else-self-at c =
    ap (link_or_none (get_or c.self.inside.links c.args.at 0)) (sym c.if-self-at.false)
    ∙ link_is c.self.invariant c.args.self.now c.args.at c.self.view_is c.requires
