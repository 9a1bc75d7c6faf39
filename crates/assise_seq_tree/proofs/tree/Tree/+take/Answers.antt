use Rattle.assise_seq_tree.proofs.Common.{◌∙◌, ap, sym, subst, IsOrdered, tree_of}
use Rattle.assise_seq_tree.proofs.Shared.Moves.{ordered-without}
use Rattle.assise_seq_tree.proofs.Walk.{is_none, is_more, first_and_rest, missing_mut, at_file, at_missing, at_looked_up, no_tree, taken_last}
use Rattle.assise_seq_tree.proofs.Walk.{without_file, without_last, without_found, without_missing}
use Rattle.assise_seq_tree.proofs.tree.Tree.+take.Goals as goal
use Rattle.assise_seq_tree.proofs.tree.Tree.+take.Goals.{in-File, in-Directory+then-is_empty, in-Directory+else-is_empty+in-Some}
use Rattle.assise_seq_tree.proofs.tree.Tree.+take.Goals.{in-Directory+else-is_empty+in-None}

pub returns-clause-taken : goal.returns-clause-taken
returns-clause-taken t c = λ found h.
    let step = first_and_rest _ _ c.in-len1-up.len_at_least c.name-item.is in
    elim c.match-self.branch [
      | in-File w ↦ no_tree _ _ _ (at_file _ _ _ _ _ step (sym c.self.view_is ∙ ap tree_of w.in-File.is)) h
      | in-Directory+then-is_empty w ↦
          let is = sym c.self.view_is ∙ ap tree_of w.in-Directory.is in
          rw w.result-is (taken_last _ _ _ _ _ w.in-Directory.entries w.remove.result step (is_none _ _ w.is_empty.ensures w.if-is_empty.true) is
          w.remove.ensures.value h)
      | in-Directory+else-is_empty+in-Some w ↦
          let is = sym c.self.view_is ∙ ap tree_of w.in-Directory.is in
          let below = at_looked_up _ _ _ _ w.in-Directory.entries w.get_mut.result _ step is w.in-Some.is w.get_mut.ensures.value in
          rw w.result-is (w.take.ensures.taken found (sym below ∙ h))
      | in-Directory+else-is_empty+in-None w ↦
          let value = w.get_mut.ensures.value in
          no_tree _ _ _ (at_missing _ _ _ _ _ step (sym c.self.view_is ∙ ap tree_of w.in-Directory.is)
          (missing_mut _ w.in-Directory.entries w.get_mut.result w.in-None.is value)) h
    ]

pub returns-clause-rest : goal.returns-clause-rest
returns-clause-rest t c =
    let step = first_and_rest _ _ c.in-len1-up.len_at_least c.name-item.is in
    elim c.match-self.branch [
      | in-File w ↦ rw w.self-inside-is (c.self.view_is ∙ without_file _ _ _ _ _ step (sym c.self.view_is ∙ ap tree_of w.in-File.is))
      | in-Directory+then-is_empty w ↦
          let is = sym c.self.view_is ∙ ap tree_of w.in-Directory.is in
          rw w.self-inside-is (without_last _ _ _ _ w.in-Directory.entries w.remove.new.self step (is_none _ _ w.is_empty.ensures w.if-is_empty.true) is
          w.remove.ensures.entries)
      | in-Directory+else-is_empty+in-Some w ↦
          let is = sym c.self.view_is ∙ ap tree_of w.in-Directory.is in
          let value = w.get_mut.ensures.value in
          let written = w.get_mut.follows.holds w.take.new.self in
          rw w.self-inside-is (without_found _ _ _ _ w.in-Directory.entries (w.get_mut.follows.lender w.take.new.self) w.get_mut.result _ _ step
          (is_more _ _ w.is_empty.ensures w.if-is_empty.false) is w.in-Some.is value written.0 w.take.ensures.rest)
      | in-Directory+else-is_empty+in-None w ↦
          let is = sym c.self.view_is ∙ ap tree_of w.in-Directory.is in
          let value = w.get_mut.ensures.value in
          rw (w.self-inside-is, w.get_mut.follows.holds-at-none)
          (sym is ∙ without_missing _ _ _ _ w.in-Directory.entries w.get_mut.result step (is_more _ _ w.is_empty.ensures w.if-is_empty.false) is
          w.in-None.is value)
    ]

pub invariant_of-self : goal.invariant_of-self
invariant_of-self t c = subst IsOrdered (sym (returns-clause-rest t c))
    (ordered-without c.args.names.now c.args.self.now (subst IsOrdered c.self.view_is c.self.invariant))
