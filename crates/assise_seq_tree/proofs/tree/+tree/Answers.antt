use Rattle.assise_seq_tree.proofs.Common.{rules, ◌≡◌, [], nil_from_length}
use Rattle.assise_seq_tree.proofs.tree.+tree.Goals as goal

pub Tree::drop-drop-requires : goal.Tree::drop-drop-requires
Tree::drop-drop-requires t c κs =
    let none : c.pop_tree.new.entries.entries ≡ [] = nil_from_length _ (c.is_empty.ensures.0 c.if-is_empty.true) in
    search rules
