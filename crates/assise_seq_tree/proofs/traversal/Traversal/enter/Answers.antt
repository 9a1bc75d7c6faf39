use Rattle.assise_seq_tree.proofs.Common.{[], ◌∷◌, ◌++◌, Ok, ap, sym, ◌∙◌, map_entries}
use Rattle.assise_seq_tree.proofs.Traversed.{left-into}
use Rattle.assise_seq_tree.proofs.traversal.Traversal.enter.Goals as goal

pub returns-clause-ok : goal.returns-clause-ok
returns-clause-ok c =
    let inside = c.self.inside in
    left-into (λ n. n.now) inside.names.items _ c.args.name inside.above.items _ inside.entries c.iter.result c.replace.new.dest c.args.tree.now
    c.args.self.now.path c.args.self.now.left c.self.invariant
    (c.push_reserved.ensures.items ∙ ap (λ ns. ns ++ c.args.name ∷ []) c.reserve.ensures.items)
    (c.push_reserved-2.ensures.items ∙ ap (λ es. c.reserve-2.new.self.items ++ es ∷ []) c.replace.ensures.value
    ∙ ap (λ more. more ++ inside.entries ∷ []) c.reserve-2.ensures.items)
    c.replace.ensures.after
    (c.in-Ok.ensures ∙ ap (λ es. Ok (map_entries es)) (sym c.iter.ensures.rest))
    (ap (λ t. t.path) c.self.view_is) (ap (λ t. t.left) c.self.view_is)
