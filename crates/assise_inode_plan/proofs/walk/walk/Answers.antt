use Rattle.assise_inode_plan.proofs.Common.{refl, sym, ◌∙◌, inl, inr, values}
use Rattle.assise_inode_plan.proofs.WalkRest.{root_seen, seen_here, left_stops, left_fault, left_on, left_ends, left_ends_early}
use Rattle.assise_inode_plan.proofs.walk.walk.Goals as goal

pub loop-name-init : goal.loop-name-init
loop-name-init g c = record { left = λ next. refl; root = inl refl }

pub returns-in-Err-clause-left : goal.returns-in-Err-clause-left
returns-in-Err-clause-left g c = left_stops (g.V.View.leased c.args.view.now) (values (g.V.Inodes.contents c.args.view.now)) c.args.reads.now.items
    c.args.names.now c.loop-name.reads.items c.visit.new.reads.items c.loop-name.at c.loop-name.name-index c.loop-name.invariant.left c.in_ok-value.field-0
    c.in_ok-value.ensures.left c.in-Err.stop c.in-Err.is

pub returns-in-Err-link-clause-left : goal.returns-in-Err-link-clause-left
returns-in-Err-link-clause-left g c = left_fault (g.V.View.leased c.args.view.now) (values (g.V.Inodes.contents c.args.view.now)) c.args.reads.now.items
    c.args.names.now c.loop-name.reads.items c.visit.new.reads.items c.loop-name.at c.loop-name.name-index c.loop-name.invariant.left c.in_ok-value.field-0
    c.in_ok-value.ensures.left c.name-item.result c.loop-name-test.true c.name-item.is c.in-Ok.value c.in-Ok.is c.in-Err-link.error
    (sym c.link.ensures ∙ c.in-Err-link.is)

pub loop-name-preserved : goal.loop-name-preserved
loop-name-preserved g c = record {
  left = left_on (g.V.View.leased c.args.view.now) (values (g.V.Inodes.contents c.args.view.now)) c.args.reads.now.items c.args.names.now
      c.loop-name.reads.items c.visit.new.reads.items c.loop-name.at c.loop-name.name-index c.loop-name.invariant.left c.in_ok-value.field-0
      c.in_ok-value.ensures.left c.name-item.result c.loop-name-test.true c.name-item.is c.in-Ok.value c.in-Ok.is c.in-Ok-link.next
      (sym c.link.ensures ∙ c.in-Ok-link.is);
  root = inr (root_seen (g.V.View.leased c.args.view.now) c.loop-name.at c.loop-name.invariant.root
      (seen_here c.in_ok-value.field-0 c.in_ok-value.ensures.seen c.in-Ok.is));
}

pub returns-in-Ok-2-clause-left : goal.returns-in-Ok-2-clause-left
returns-in-Ok-2-clause-left g c = left_ends (g.V.View.leased c.args.view.now) (values (g.V.Inodes.contents c.args.view.now)) c.args.reads.now.items
    c.args.names.now c.loop-name.reads.items c.reach.new.reads.items c.loop-name.at c.loop-name.name-index c.loop-name.invariant.left c.loop-name-test.false
    c.in_ok-inode.field-0 c.in_ok-inode.ensures.left c.in-Ok-2.inode c.in-Ok-2.is

pub returns-in-Err-2-clause-left : goal.returns-in-Err-2-clause-left
returns-in-Err-2-clause-left g c = left_ends_early (g.V.View.leased c.args.view.now) (values (g.V.Inodes.contents c.args.view.now)) c.args.reads.now.items
    c.args.names.now c.loop-name.reads.items c.reach.new.reads.items c.loop-name.at c.loop-name.name-index c.loop-name.invariant.left c.loop-name-test.false
    c.in_ok-inode.field-0 c.in_ok-inode.ensures.left c.in-Err-2.stop c.in-Err-2.is
