use Rattle.assise_inode_table.proofs.Common.{◌∙◌, sym, ap, subst, Ascend, live, slots_in}
use Rattle.assise_inode_table.proofs.PieceSlots.{read_piece}
use Rattle.assise_inode_table.proofs.PieceChanges.{gone_live, gone_ascend}
use Rattle.assise_inode_table.proofs.directory.let_go.Goals as goal

pub returns-then-is_gone-clause-live : goal.returns-then-is_gone-clause-live
returns-then-is_gone-clause-live c =
    let ps = c.args.pieces.now.items in
    let w = c.args.piece in
    ap (λ qs. live (slots_in qs)) c.remove.ensures.items
    ∙ gone_live ps w c.requires.piece (ap live (sym (read_piece ps w c.index.result.now c.requires.piece c.index.ensures))
    ∙ c.is_gone.ensures c.if-is_gone.true)

pub returns-then-is_gone-clause-ascend : goal.returns-then-is_gone-clause-ascend
returns-then-is_gone-clause-ascend c s =
    subst (λ qs. Ascend (slots_in qs)) (sym c.remove.ensures.items) (gone_ascend c.args.pieces.now.items c.args.piece c.requires.piece s)
