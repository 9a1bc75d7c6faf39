use Rattle.assise_inode_plan.proofs.Common.{take, sym, ap, ◌∙◌, values, plan_from}
use Rattle.assise_inode_plan.proofs.WalkTwice.{walk_again}
use Rattle.assise_inode_plan.proofs.renaming.walk_to_taker.Goals as goal

pub returns-then-stays : goal.returns-then-stays
returns-then-stays g c = record {
  left =
      let leased = g.V.View.leased c.args.view.now in
      let v = values (g.V.Inodes.contents c.args.view.now) in
      let entry = c.args.entry.now in
      let before = c.args.reads.now.items in
      λ next.
      walk_again leased v c.args.taker.now (take entry.visits before) entry.directory entry.parent.now (c.requires.walked c.if-stays.true) before next
      ∙ ap (λ visits. plan_from leased v visits (next entry.directory entry.parent.now)) (sym c.in_ok-repeat.ensures.ok);
}
