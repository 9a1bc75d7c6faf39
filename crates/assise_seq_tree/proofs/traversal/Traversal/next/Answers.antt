use Rattle.assise_seq_tree.proofs.Common.{[], ◌∷◌, ◌++◌, map, ap, sym, ◌∙◌, length-map, places_left}
use Rattle.assise_seq_tree.proofs.Traversed.{along-behind, left-behind, left-next}
use Rattle.assise_seq_tree.proofs.traversal.Traversal.next.Goals as goal

pub returns-in-Some : goal.returns-in-Some
returns-in-Some c =
    let inside = c.loop-entry.self-inside in
    let names = map (λ n. n.now) inside.names.items in
    sym c.loop-entry.invariant.left
    ∙ ap (λ es. places_left [] names (inside.above.items ++ es ∷ [])) c.in-Some.ensures.steps
    ∙ left-next [] names inside.above.items _ c.next.new.self (c.loop-entry.invariant.along ∙ sym (length-map inside.names.items (λ n. n.now)))

pub loop-entry-preserved : goal.loop-entry-preserved
loop-entry-preserved c =
    let inside = c.loop-entry.self-inside in
    let way = c.in_ok-pop.ensures.items in
    let front = c.in_ok-self-inside.ensures.items in
    record {
      along = along-behind inside.names.items _ _ inside.above.items _ _ way front c.loop-entry.invariant.along;
      left = left-behind (λ n. n.now) inside.names.items _ _ inside.above.items _ _ _ _ way front c.in_default.ensures.steps.0 c.loop-entry.invariant.along
          c.loop-entry.invariant.left;
    }
