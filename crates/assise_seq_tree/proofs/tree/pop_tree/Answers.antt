use Rattle.assise_seq_tree.proofs.Common.{ap, ◌∙◌, subst, AreOrdered, sizes_of, map_entries}
use Rattle.assise_seq_tree.proofs.LastEntry.{ordered-front, sizes-front}
use Rattle.assise_seq_tree.proofs.tree.pop_tree.Goals as goal

pub returns-clause-ordered : goal.returns-clause-ordered
returns-clause-ordered c = ordered-front _ _ (subst (λ es. AreOrdered (map_entries es)) c.in_ok-tree.ensures.removal c.requires)

pub returns-clause-sum : goal.returns-clause-sum
returns-clause-sum c = ap (λ es. sizes_of (map_entries es)) c.in_ok-tree.ensures.removal ∙ sizes-front _ _
