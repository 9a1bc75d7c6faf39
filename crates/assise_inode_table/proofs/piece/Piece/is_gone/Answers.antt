use Rattle.assise_inode_table.proofs.Common.{◌≡◌, ◌∙◌, sym, ap, length, arith, rules, tests, take, arc_value, list_all, YieldsList-from_slice, live}
use Rattle.std.proofs.lemmas.Iterator.Search.{all_from_yields_List}
use Rattle.assise_inode_table.proofs.PieceLinks.{all_gone}
use Rattle.assise_inode_table.proofs.piece.Piece.is_gone.Goals as goal

pub returns : goal.returns
returns c e =
    let ns = (arc_value c.self.inside.names).items in
    let gs = c.self.inside.gone in
    let len : c.len.result ≡ length ns = search (arith, rules) in
    let all : c.all.result ≡ list_all (λ g. g) (take c.len.result gs) =
    all_from_yields_List (λ g. g) _ _ c.all.result c.all.ensures.ran (YieldsList-from_slice (take c.len.result gs) cc) (λ x b q k. search (rules, tests)) in
    ap live (sym c.self.view_is) ∙ all_gone ns c.self.inside.links gs (ap (λ n. list_all (λ g. g) (take n gs)) (sym len) ∙ sym all ∙ e)
