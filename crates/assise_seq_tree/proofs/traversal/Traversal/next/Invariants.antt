use Rattle.assise_seq_tree.proofs.Common.{◌≡◌, [], ◌∷◌, ◌++◌, length, map, places_left}
use Rattle.assise_seq_tree.proofs.traversal.Traversal.next.Given as goal

abbrev pub decreases-loop-entry : goal.decreases-loop-entry
decreases-loop-entry l = length l.self-inside.above.items

-- the directories that have ended had nothing left
abbrev pub invariant-loop-entry : goal.invariant-loop-entry
invariant-loop-entry l = record {
  along : length l.self-inside.above.items ≡ length l.self-inside.names.items;
  left : places_left [] (map (λ name. name.now) l.self-inside.names.items) (l.self-inside.above.items ++ l.self-inside.entries ∷ []) ≡ l.fn.self.left;
}
