use Rattle.assise_rounds.proofs.Common.{◌∙◌, sym, subst, tree_after_calls, opening, ops, alone_at, numbered_replicated, state_of, machine}
use Rattle.assise_inode_table.specs.Spelled.{Spells}
use Rattle.assise_machine.proofs.Shared.Replicated.{replicated_tree}
use Rattle.assise_machine.proofs.Shared.Results.{if_ok_as}
use Rattle.assise_rounds.proofs.Acked.{some_acked}
use Rattle.assise_rounds.proofs.trees.tree_at.Goals as goal

pub returns-clause-tree : goal.returns-clause-tree
returns-clause-tree g c =
    let m = machine c.args.cluster.now in
    let t = tree_after_calls opening (ops (numbered_replicated (state_of m))) in
    let acked = some_acked m.world in
    let observed = c.in_ok-region.ensures.observed acked.0 acked.1 in
    let spelled : Spells (alone_at m.world c.args.node) t = subst (λ v. Spells v t) (λ i j. observed j i) (c.in_ok-region.ensures.alone acked.0 acked.1) in
    if_ok_as c.tree_of.result _ _ c.tree_of.ensures.tree (λ found is. subst (Spells (alone_at m.world c.args.node)) (sym is) spelled)

pub returns-clause-replicated : goal.returns-clause-replicated
returns-clause-replicated g c = if_ok_as c.tree_of.result _ _ c.tree_of.ensures.tree (λ found is. is ∙ sym (replicated_tree c.args.cluster.now))
