use Rattle.assise_files.proofs.Common.{rules, ◌≡◌, ◌∙◌, ◌++◌, ◌∷◌, [], ap, sym, subst, true, false, FaithfulAt, cluster_seen, links_seen}
use Rattle.assise_files.proofs.Common.{most_tries, lost_changes, tree_with, IsNumbered}
use Rattle.assise_files.proofs.MadeAgain.{all_made, all_tree, made_next, numbered, stopped, tried_as}
use Rattle.assise_files.proofs.QuietRounds.{tree_is}
use Rattle.assise_files.proofs.files.Files.redo.Goals as goal

pub lost_changes-requires : goal.lost_changes-requires
lost_changes-requires c = subst IsNumbered (sym c.entries-entries.ensures) (numbered c.history.result.now.events c.history.ensures.legal)

pub returns-then-not-is_done-clause-made : goal.returns-then-not-is_done-clause-made
returns-then-not-is_done-clause-made c =
    let last : c.loop-change.left.items ≡ c.pop.new.self.items ++ c.in-Some.change ∷ [] = search rules in
    let undone : c.is_done.result ≡ false = search rules in
    stopped _ _ c.args.first _ _ _ _ _ _ _ _ _ c.loop-change.invariant.made last
    (tried_as _ _ _ _ _ _ _ _ _ c.loop-change.invariant.links c.loop-change.invariant.turns c.call-came.ensures.tried)
    (λ done. cc (undone, c.is_done.ensures.1 done))

pub loop-change-preserved : goal.loop-change-preserved
loop-change-preserved c =
    let last : c.loop-change.left.items ≡ c.pop.new.self.items ++ c.in-Some.change ∷ [] = search rules in
    let is : c.is_done.result ≡ true = search rules in
    record {
      made =
          made_next _ _ _ _ _ _ _ _ _ _ _ c.loop-change.invariant.made last
          (tried_as _ _ _ _ _ _ _ _ _ c.loop-change.invariant.links c.loop-change.invariant.turns c.call-came.ensures.tried)
          (c.is_done.ensures.0 is);
      turns = search rules;
      links = search rules;
    }

pub returns-clause-made : goal.returns-clause-made
returns-clause-made c =
    let none : c.loop-change.left.items ≡ [] = search rules in
    all_made (FaithfulAt (links_seen c.args.self.now)) (most_tries c.args.self.now) c.args.first c.args.client
    (lost_changes c.args.lost c.args.first (cluster_seen c.args.self.now).history)
    c.loop-change.left.items (cluster_seen c.args.self.now) (cluster_seen c.loop-change.self) tt c.loop-change.invariant.made none

pub returns-clause-tree : goal.returns-clause-tree
returns-clause-tree c =
    let none : c.loop-change.left.items ≡ [] = search rules in
    let changes = lost_changes c.args.lost c.args.first (cluster_seen c.args.self.now).history in
    tree_is c.loop-change.self
    ∙ all_tree (FaithfulAt (links_seen c.args.self.now)) (most_tries c.args.self.now) c.args.client
    (lost_changes c.args.lost c.args.first (cluster_seen c.args.self.now).history)
    c.loop-change.left.items (cluster_seen c.args.self.now) (cluster_seen c.loop-change.self) c.loop-change.invariant.made none
    ∙ ap (λ t. tree_with t changes) (sym (tree_is c.args.self.now))
