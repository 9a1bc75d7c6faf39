use Rattle.assise_inode_table.proofs.Common.{◌∙◌, ap, None, [], set, arith, zip, arc_value, slot_name, links_or_none}
use Rattle.assise_inode_table.proofs.PieceChanges.{set-side}
use Rattle.assise_inode_table.proofs.PieceLinks.{slots_count}
use Rattle.assise_inode_table.proofs.piece.Piece.set.Goals as goal

pub set_link-requires-clause-within : goal.set_link-requires-clause-within
set_link-requires-clause-within c = omega (arith, slots_count c.self.invariant c.self.view_is, c.requires, c.self.invariant.few, c.self.invariant.room)

pub returns : goal.returns
returns c =
    let ns = (arc_value c.self.inside.names).items in
    ap (zip ns) c.set_link.ensures.linked
    ∙ set-side ns (links_or_none c.self.inside.links c.self.inside.gone) c.args.at [] None c.args.link
    ∙ ap (λ slots. set slots c.args.at (slot_name slots c.args.at, c.args.link)) c.self.view_is
