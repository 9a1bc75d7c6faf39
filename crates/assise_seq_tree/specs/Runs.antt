-- Calls that are answered one after another.
use Rattle.std.specs.Prelude.{◌≡◌, List, [], ◌∷◌}
use Rattle.assise_names.specs.declared.call.Op.{Op}
use Rattle.assise_names.specs.declared.reply.Reply.{Reply}
use Rattle.assise_seq_tree.specs.Tree.{Tree}
use Rattle.assise_seq_tree.specs.Answer.{answer}

-- each reply is the tree's, of which the calls before are made
abbrev pub AreAnswered : Tree → List (Op × Reply) → Type 0
AreAnswered t [] = Unit {0}
AreAnswered t (x ∷ more) = (x.1 ≡ (answer t x.0).0) × AreAnswered (answer t x.0).1 more

-- the tree that calls leave
abbrev pub tree_after_calls : Tree → List Op → Tree
tree_after_calls t [] = t
tree_after_calls t (op ∷ more) = tree_after_calls (answer t op).1 more
