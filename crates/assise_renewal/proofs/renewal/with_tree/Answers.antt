use Rattle.assise_renewal.proofs.Common.{ap, sym, subst, ◌∙◌, opening, tree_after, region_of, all_acked}
use Rattle.assise_inode_table.specs.Spelled.{Spells}
use Rattle.assise_digest.specs.Region.{alone}
use Rattle.assise_renewal.proofs.renewal.with_tree.Goals as goal

pub returns-then-branch : goal.returns-then-branch
returns-then-branch g c =
    let yes = c.if-branch.true in
    let made = c.in_ok-cluster.cluster in
    let safe = c.in_ok-has_tree.ensures.safe yes in
    let is = c.in_ok-has_tree.ensures.tree yes in
    record {
      begun = c.in_ok-cluster.ensures.begun;
      legal = c.headline.ensures.legal;
      client = c.in_ok-cluster.ensures.client;
      safe = safe;
      tree = ap (tree_after opening) (sym safe) ∙ is;
      replicated = is;
      up = c.in_ok-has_tree.ensures.up yes;
      alone = λ n up. subst (Spells (alone (region_of made n) (all_acked made))) is (c.headline.ensures.alone n up);
    }
