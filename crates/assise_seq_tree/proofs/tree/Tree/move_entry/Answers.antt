use Rattle.assise_seq_tree.proofs.Common.{subst, IsOrdered}
use Rattle.assise_seq_tree.proofs.Shared.Paths.{step_disjoint}
use Rattle.assise_seq_tree.proofs.TreePlaced.{below_the_root, moved_whole, moved_none}
use Rattle.assise_seq_tree.proofs.tree.Tree.move_entry.Goals as goal

pub take-requires : goal.take-requires
take-requires c = record { below_the_root = below_the_root c.args.from.now c.args.to.now c.requires.disjoint }

pub returns-in-Some-clause-ok : goal.returns-in-Some-clause-ok
returns-in-Some-clause-ok c = λ moved h.
    moved_whole c.args.from.now c.args.to.now c.args.self.now c.put.new.self c.take.new.self c.swap.new.self moved c.in-Some.moved c.requires.parent.0
    c.take.result
    (subst IsOrdered c.self.view_is c.self.invariant) (step_disjoint c.args.from.now c.args.to.now c.requires.disjoint) c.requires.parent.1 h
    (rw c.new.ensures at c.in_ok-put.ensures.ok) c.take.ensures.taken c.take.ensures.rest c.in-Some.is
    (λ u e. (c.swap.ensures.there u e).1)

pub returns-in_default-clause-ok : goal.returns-in_default-clause-ok
returns-in_default-clause-ok c = λ moved h.
    moved_none c.args.from.now c.args.to.now c.args.self.now c.put.new.self moved c.requires.parent.0 c.take.result
    (subst IsOrdered c.self.view_is c.self.invariant) (step_disjoint c.args.from.now c.args.to.now c.requires.disjoint) c.requires.parent.1 h
    (rw c.new.ensures at c.in_ok-put.ensures.ok) c.take.ensures.taken c.in_default.is
