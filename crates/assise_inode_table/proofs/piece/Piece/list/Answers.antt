use Rattle.assise_inode_table.proofs.Common.{◌≡◌, ◌<◌, ◌∙◌, ◌++◌, ◌∷◌, [], sym, ap, length, arith, rules, get_or, take, zip, append_assoc, arc_value, keys_of}
use Rattle.assise_inode_table.proofs.Common.{get_or_read, links_or_none, link_or_none, live}
use Rattle.assise_inode_table.proofs.PieceSearch.{listed_none, listed_some, take_side_all}
use Rattle.assise_inode_table.proofs.PieceLinks.{names_few, link_beside}
use Rattle.assise_inode_table.proofs.piece.Piece.list.Goals as goal
use Rattle.assise_inode_table.proofs.piece.Piece.list.Goals.{then-not-self-at+in_ok-copy+in_ok-push, else-not-self-at}

pub loop-at-preserved : goal.loop-at-preserved
loop-at-preserved c =
    let ns = (arc_value c.self.inside.names).items in
    let m = links_or_none c.self.inside.links c.self.inside.gone in
    let few = names_few c.self.invariant in
    let names : c.len-at-end.result ≡ length ns = search (arith, rules) in
    let inside : c.loop-at.at < length ns = omega (arith, names, c.loop-at-test.true) in
    let link = link_beside c.self.invariant c.loop-at.at inside in
    elim c.if-not-self-at.branch [
      | then-not-self-at+in_ok-copy+in_ok-push w ↦
          let inode = get_or c.self.inside.links c.loop-at.at 0 in
          let linked = link ∙ ap (link_or_none inode) w.if-not-self-at.true in
          let read : w.index.result.now ≡ get_or ns c.loop-at.at w.index.result.now = search rules in
          ap (λ v. v.items) w.names-is ∙ w.in_ok-push.ensures.items
          ∙ ap (λ n. c.loop-at.names.items ++ n ∷ []) (w.in_ok-copy.ensures.equal ∙ get_or_read ns c.loop-at.at w.index.result.now inside read [])
          ∙ ap (λ xs. xs ++ get_or ns c.loop-at.at [] ∷ []) c.loop-at.invariant
          ∙ append_assoc c.args.names.now.items (keys_of (live (take c.loop-at.at (zip ns m)))) (get_or ns c.loop-at.at [] ∷ [])
          ∙ ap (λ ks. c.args.names.now.items ++ ks) (sym (listed_some ns m few c.loop-at.at inside inode linked))
      | else-not-self-at w ↦
          let gone = link ∙ ap (link_or_none (get_or c.self.inside.links c.loop-at.at 0)) w.if-not-self-at.false in
          ap (λ v. v.items) w.names-is ∙ c.loop-at.invariant ∙ ap (λ ks. c.args.names.now.items ++ ks) (sym (listed_none ns m few c.loop-at.at inside gone))
    ]

pub returns : goal.returns
returns c = record {
  ok =
      let ns = (arc_value c.self.inside.names).items in
      let names : c.len-at-end.result ≡ length ns = search (arith, rules) in
      let m = links_or_none c.self.inside.links c.self.inside.gone in
      c.loop-at.invariant ∙ ap (λ slots. c.args.names.now.items ++ keys_of (live slots))
      (take_side_all ns m c.loop-at.at (names_few c.self.invariant) (omega (arith, names, c.loop-at-test.false)) ∙ c.self.view_is);
}
