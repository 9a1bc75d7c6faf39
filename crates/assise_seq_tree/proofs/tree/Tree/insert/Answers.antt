use Rattle.assise_seq_tree.proofs.Common.{◌∷◌, [], ap, sym, subst, ◌∙◌, refl, IsOrdered, tree_of}
use Rattle.assise_seq_tree.proofs.Walk.{fails_at_none, put_file}
use Rattle.assise_seq_tree.proofs.Order.{ordered-after}
use Rattle.assise_seq_tree.proofs.EntryAdded.{put_entry, new_entry}
use Rattle.assise_seq_tree.proofs.tree.Tree.insert.Goals as goal
use Rattle.assise_seq_tree.proofs.tree.Tree.insert.Goals.{in-File, in-Directory+in_ok-insert-in-Directory}

pub returns-clause-ok : goal.returns-clause-ok
returns-clause-ok c =
    elim c.match-self.branch [
      | in-File w ↦ rw (w.result-is, w.self-inside-is) (c.self.view_is ∙ put_file _ _ _ _ _ _ refl (sym c.self.view_is ∙ ap tree_of w.in-File.is))
      | in-Directory+in_ok-insert-in-Directory w ↦
          let is = sym c.self.view_is ∙ ap tree_of w.in-Directory.is in
          rw (w.result-is, w.self-inside-is)
          (put_entry _ _ c.args.name w.in-Directory.entries w.insert.new.self (subst IsOrdered c.self.view_is c.self.invariant) is
          w.in_ok-insert-in-Directory.ensures.entries)
    ]

pub returns-clause-err : goal.returns-clause-err
returns-clause-err c =
    elim c.match-self.branch [
      | in-File w ↦ rw w.result-is tt
      | in-Directory+in_ok-insert-in-Directory w ↦ rw w.result-is tt
    ]

pub invariant_of-self-2 : goal.invariant_of-self-2
invariant_of-self-2 c =
    ordered-after c.match-self.result (c.args.name ∷ []) _ c.args.self.now c.args.tree (returns-clause-ok c) (returns-clause-err c)
    (subst IsOrdered c.self.view_is c.self.invariant) (subst IsOrdered c.tree.view_is c.tree.invariant)

pub returns-in_err-insert-in-Directory-clause-asked : goal.returns-in_err-insert-in-Directory-clause-asked
returns-in_err-insert-in-Directory-clause-asked c =
    fails_at_none c.from_residual.result _ _
    (new_entry _ c.args.name c.in-Directory.entries (sym c.self.view_is ∙ ap tree_of c.in-Directory.is) c.in_err-insert-in-Directory.ensures.absent)
