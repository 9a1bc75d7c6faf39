use Rattle.assise_seq_tree.proofs.Common.{rules, ◌≡◌, [], ◌∷◌, ◌++◌, ap, ◌∙◌, subst, HasWritten, has_written_append, place_line, places_below}
use Rattle.assise_seq_tree.proofs.TreePrinted.{lines_more, lines_of}
use Rattle.assise_seq_tree.proofs.lines.write_lines.Goals as goal

pub loop-name-init : goal.loop-name-init
loop-name-init g c = ([], ap lines_of c.new-traversal.ensures.left, λ plain. search rules)

pub loop-name-preserved : goal.loop-name-preserved
loop-name-preserved g c =
    let (done, rest, written) = c.loop-name.invariant in
    let path = c.next.new.self.path ++ c.in-Some.name.now ∷ [] in
    let line = place_line (path, c.in-Some.tree.now) in
    let entered : c.enter.new.self.left ≡ places_below path c.in-Some.tree.now ++ c.next.new.self.left = search rules in
    let same = ap (λ p. done ++ place_line (p ++ c.in-Some.name.now ∷ [], c.in-Some.tree.now)) c.path.ensures in (
      done ++ line,
      ap (λ ps. (done ++ line) ++ lines_of ps) entered ∙ lines_more done _ _ (places_below path c.in-Some.tree.now) c.next.new.self.left _ c.in-Some.ensures
          rest,
      λ plain.
          let before = written plain in
          subst (λ s. HasWritten g.W.Write.write_str_gives c.args.f.now s c.write_line.new.f) same
          (has_written_append _ _ _ _ _ _ before (c.in_ok-write_line.ensures before.plain (search rules))),
    )
