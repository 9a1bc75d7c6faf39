use Rattle.assise_inode_table.proofs.Common.{◌∙◌, sym, ap, false, set, links_or_none}
use Rattle.assise_inode_table.proofs.PieceLinks.{links-set, links-gone}
use Rattle.assise_inode_table.proofs.piece.set_link.Goals as goal

pub returns-in-Some-clause-linked : goal.returns-in-Some-clause-linked
returns-in-Some-clause-linked c =
    links-set c.args.links.now c.args.gone.now c.args.at c.in-Some.inode false
    ∙ ap (set (links_or_none c.args.links.now c.args.gone.now) c.args.at) (sym c.in-Some.is)

pub returns-in-None-clause-linked : goal.returns-in-None-clause-linked
returns-in-None-clause-linked c =
    links-gone c.args.links.now c.args.gone.now c.args.at
    ∙ ap (set (links_or_none c.args.links.now c.args.gone.now) c.args.at) (sym c.in-None.is)
