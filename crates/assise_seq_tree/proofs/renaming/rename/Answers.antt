use Rattle.assise_seq_tree.proofs.Common.{sym, ◌∙◌}
use Rattle.assise_seq_tree.proofs.Shared.Checks.{passed, not_true}
use Rattle.assise_seq_tree.proofs.renaming.rename.Goals as goal

pub move_entry-requires-clause-disjoint : goal.move_entry-requires-clause-disjoint
move_entry-requires-clause-disjoint c =
    rw (c.names.ensures.names, c.names-then-ne.ensures.names)
    (passed c.args.from.now c.args.to.now c.args.tree.now (sym (c.may_rename.ensures) ∙ c.in_default.is) (not_true _ _ (c.ne.ensures) c.if-ne.true)).disjoint

pub move_entry-requires-clause-parent : goal.move_entry-requires-clause-parent
move_entry-requires-clause-parent c =
    let p = passed c.args.from.now c.args.to.now c.args.tree.now (sym (c.may_rename.ensures) ∙ c.in_default.is) (not_true _ _ (c.ne.ensures) c.if-ne.true) in
    rw (c.names-then-ne.ensures.names) (p.entries, p.parent)
