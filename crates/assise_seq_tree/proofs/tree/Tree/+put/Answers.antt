use Rattle.assise_seq_tree.proofs.Common.{subst, IsErr, IsOrdered, at, ◌≡◌, ◌∙◌, Err, ap, sym, tree_of, NoEnt, on_ok_weaker, on_err_weaker}
use Rattle.assise_seq_tree.proofs.Order.{ordered-after}
use Rattle.assise_seq_tree.proofs.Walk.{no_items, first_and_rest, missing_mut, at_missing, at_looked_up, fails_at_none, put_root, put_file, put_found}
use Rattle.assise_seq_tree.proofs.Walk.{put_missing, kept_found}
use Rattle.assise_seq_tree.proofs.tree.Tree.+put.Goals as goal
use Rattle.assise_seq_tree.proofs.tree.Tree.+put.Goals.{In-None, in-File, in-Directory+in-Some}
use Rattle.assise_seq_tree.proofs.tree.Tree.+put.Goals.{in-Directory+in-None+in_ok-put-in-None+in_ok-key-in-None+in_ok-insert-in-None}

pub returns-in_default-clause-ok : goal.returns-in_default-clause-ok
returns-in_default-clause-ok t c = c.tree.view_is ∙ put_root _ _ _ (no_items c.args.names.now c.in_default.len_below)

pub returns-clause-ok : goal.returns-clause-ok
returns-clause-ok t c =
    let step = first_and_rest _ _ c.in-len1-up.len_at_least c.name-item.is in
    elim c.match-self.branch [
      | in-File w ↦ rw (w.result-is, w.self-inside-is) (c.self.view_is ∙ put_file _ _ _ _ _ _ step (sym c.self.view_is ∙ ap tree_of w.in-File.is))
      | in-Directory+in-Some w ↦
          let is = sym c.self.view_is ∙ ap tree_of w.in-Directory.is in
          let value = w.get_mut.ensures.value in
          let written = w.get_mut.follows.holds w.put.new.self in
          rw (w.result-is, w.self-inside-is)
          (on_ok_weaker w.put.result
          (put_found _ _ _ _ _ w.in-Directory.entries (w.get_mut.follows.lender w.put.new.self) w.get_mut.result _ _ step is w.in-Some.is value written.0)
          w.put.ensures.ok)
      | in-Directory+in-None+in_ok-put-in-None+in_ok-key-in-None+in_ok-insert-in-None w ↦
          let is = sym c.self.view_is ∙ ap tree_of w.in-Directory.is in
          let value = w.get_mut.ensures.value in
          let m = w.get_mut.follows.holds-at-none in
          let spelled = w.in_ok-key-in-None.ensures.equal in
          let made = rw w.new-child.ensures at w.in_ok-put-in-None.ensures.ok in
          rw (w.result-is, w.self-inside-is)
          (put_missing _ _ _ _ _ w.in-Directory.entries w.insert.new.self w.get_mut.result w.in_ok-key-in-None.key w.put-in-None.new.self step is
          w.in-None.is value spelled (rw m at w.in_ok-insert-in-None.ensures.entries) made)
    ]

pub returns-clause-err : goal.returns-clause-err
returns-clause-err t c =
    elim c.match-self.branch [
      | in-File w ↦ rw w.result-is tt
      | in-Directory+in-Some w ↦
          let is = sym c.self.view_is ∙ ap tree_of w.in-Directory.is in
          let value = w.get_mut.ensures.value in
          let written = w.get_mut.follows.holds w.put.new.self in
          rw (w.result-is, w.self-inside-is)
          (on_err_weaker w.put.result
          (kept_found _ _ w.in-Directory.entries (w.get_mut.follows.lender w.put.new.self) w.get_mut.result _ _ is w.in-Some.is value written.0)
          w.put.ensures.err)
      | in-Directory+in-None+in_ok-put-in-None+in_ok-key-in-None+in_ok-insert-in-None w ↦ rw w.result-is tt
    ]

-- nothing stands at the path where its first name is missing
missing : (t : _) (c : In-None t) → at c.args.self.now c.args.names.now ≡ Err NoEnt
missing t c =
    at_missing _ _ _ _ _ (first_and_rest _ _ c.in-len1-up.len_at_least c.name-item.is) (sym c.self.view_is ∙ ap tree_of c.in-Directory.is)
    (missing_mut _ c.in-Directory.entries c.get_mut.result c.in-None.is c.get_mut.ensures.value)

pub returns-in_err-put-in-None-clause-asked : goal.returns-in_err-put-in-None-clause-asked
returns-in_err-put-in-None-clause-asked t c = fails_at_none c.from_residual.result _ _ (missing t (goal.at.returns-in_err-put-in-None-clause-asked t c).In-None)

pub returns-in_err-key-in-None-clause-asked : goal.returns-in_err-key-in-None-clause-asked
returns-in_err-key-in-None-clause-asked t c =
    fails_at_none c.from_residual-in_err-key-in-None.result _ _ (missing t (goal.at.returns-in_err-key-in-None-clause-asked t c).In-None)

pub returns-in_err-insert-in-None-clause-asked : goal.returns-in_err-insert-in-None-clause-asked
returns-in_err-insert-in-None-clause-asked t c =
    fails_at_none c.from_residual-in_err-insert-in-None.result _ _ (missing t (goal.at.returns-in_err-insert-in-None-clause-asked t c).In-None)

pub returns-clause-asked : goal.returns-clause-asked
returns-clause-asked t c =
    elim c.match-self.branch [
      | in-File w ↦ rw w.result-is tt
      | in-Directory+in-Some w ↦
          let below = at_looked_up _ _ _ _ w.in-Directory.entries w.get_mut.result _ (first_and_rest _ _ c.in-len1-up.len_at_least c.name-item.is)
          (sym c.self.view_is ∙ ap tree_of w.in-Directory.is) w.in-Some.is w.get_mut.ensures.value in
          rw w.result-is (on_err_weaker w.put.result (λ h. subst IsErr (sym below) h) w.put.ensures.asked)
      | in-Directory+in-None+in_ok-put-in-None+in_ok-key-in-None+in_ok-insert-in-None w ↦ rw w.result-is tt
    ]

pub invariant_of-self-2 : goal.invariant_of-self-2
invariant_of-self-2 t c = ordered-after c.match-self.result c.args.names.now _ c.args.self.now c.args.tree (returns-clause-ok t c) (returns-clause-err t c)
    (subst IsOrdered c.self.view_is c.self.invariant) (subst IsOrdered c.tree.view_is c.tree.invariant)
