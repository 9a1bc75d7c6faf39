use Rattle.assise_desk.proofs.Common.{◌∙◌, sym, subst, ap, inl, inr, err_from_is_err_and, cluster_seen, Refused, has_no_tree, text_lacks_memory}
use Rattle.std.specs.Prelude.{IfErr}
use Rattle.assise_desk.specs.Texts.{MayNotPrint}
use Rattle.assise_model_events.specs.Faults.{node_fault}
use Rattle.assise_desk.proofs.TextPages.{why_no_tree}
use Rattle.assise_desk.proofs.texts.print.Goals as goal

pub returns-in_err-tree-in-Tree-clause-fault : goal.returns-in_err-tree-in-Tree-clause-fault
returns-in_err-tree-in-Tree-clause-fault c =
    let error = err_from_is_err_and c.from_residual-in_err-tree-in-Tree.result c.from_residual-in_err-tree-in-Tree.ensures.1 in
    let refusal = c.in_err-tree-in-Tree.field-0.0 in
    subst (λ r. IfErr r (MayNotPrint c.args.text c.args.node c.args.files.now)) (sym error.1) (
    elim (why_no_tree c.tree.result refusal (node_fault (cluster_seen c.args.files.now) c.args.node) c.in_err-tree-in-Tree.was c.tree.ensures.fault
    c.tree.ensures.only_memory) [
      | inl lacks ↦ text_lacks_memory (error.2 ∙ ap Refused lacks)
      | inr fault ↦ has_no_tree refusal c.in-Tree.is fault error.2
    ])
