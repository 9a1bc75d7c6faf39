use Rattle.assise_inode_table.proofs.Common.{◌∙◌, sym, ap, subst, StandsAt, slot_link}
use Rattle.std.specs.FinMap as map
use Rattle.assise_inode_table.proofs.PieceSlots.{got_slot, read_piece}
use Rattle.assise_inode_table.proofs.directory.Directory.get.Goals as goal

pub returns-in-Some : goal.returns-in-Some
returns-in-Some c =
    let ps = c.self.inside.pieces.items in
    let w = c.in-Some.place.piece in
    let at = c.in-Some.place.at in
    let name = c.args.name.now in
    let stands = subst (λ qs. StandsAt name qs w at) c.deref.ensures.value c.in-Some.ensures.there in
    c.link.ensures ∙ ap (λ p. slot_link p at) (read_piece ps w c.index.result.now stands.within c.index.ensures)
    ∙ sym (got_slot name ps w at c.self.invariant.ascend stands) ∙ ap (λ m. map.get m name) c.self.view_is
