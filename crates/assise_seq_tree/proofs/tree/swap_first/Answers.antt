use Rattle.assise_seq_tree.proofs.Common.{◌<◌, sym, ◌∙◌, rules, subst, IsOrdered, size_of, sizes_of, map_entries}
use Rattle.assise_seq_tree.proofs.FirstEntry.{exchanged-sum, first-written}
use Rattle.assise_seq_tree.proofs.tree.swap_first.Goals as goal

pub returns-clause-ordered : goal.returns-clause-ordered
returns-clause-ordered c = (first-written _ _ _ c.swap.new.x _ c.in-Some.ensures.key (sym c.in-Some.ensures.value.0 ∙ c.into_mut.ensures.value) (search rules)
    c.requires (subst IsOrdered (c.tree.view_is ∙ sym c.swap.ensures.x_after) c.tree.invariant)).ordered

pub returns-clause-sum : goal.returns-clause-sum
returns-clause-sum c = exchanged-sum _ _ _ _ _ _
    (first-written _ _ _ c.swap.new.x _ c.in-Some.ensures.key (sym c.in-Some.ensures.value.0 ∙ c.into_mut.ensures.value) (search rules) c.requires
    (subst IsOrdered (c.tree.view_is ∙ sym c.swap.ensures.x_after) c.tree.invariant)) c.swap.ensures.y_after c.swap.ensures.x_after

pub returns-clause-falls : goal.returns-clause-falls
returns-clause-falls c = λ _. subst (λ t. size_of t < sizes_of (map_entries c.args.entries.now.entries)) (sym c.swap.ensures.y_after)
    (first-written _ _ _ _ _ c.in-Some.ensures.key (sym c.in-Some.ensures.value.0 ∙ c.into_mut.ensures.value) (c.in-Some.ensures.update.1 c.swap.new.x)
    c.requires (subst IsOrdered (c.tree.view_is ∙ sym c.swap.ensures.x_after) c.tree.invariant)).falls
