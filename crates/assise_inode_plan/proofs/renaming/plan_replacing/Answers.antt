use Rattle.assise_inode_plan.proofs.Common.{◌++◌, ap, sym, ◌∙◌, Done, values, finish, plan_from}
use Rattle.assise_inode_plan.specs.Moving.{effects_of_move}
use Rattle.assise_inode_plan.proofs.RenamePlans.{target_stops, target_remains, target_goes}
use Rattle.assise_inode_plan.proofs.renaming.plan_replacing.Goals as goal

pub returns-in-Err : goal.returns-in-Err
returns-in-Err g c = record {
  exact = c.stopped.ensures ∙ target_stops (g.V.View.leased c.args.view.now) (values (g.V.Inodes.contents c.args.view.now))
      c.args.reads.items c.reach.new.reads.items c.args.target c.in_ok-replaced.field-0 c.in_ok-replaced.ensures.left c.args.moving.now.from.content.now
      c.args.moving.now.directory c.args.moving.now.new_name.now (effects_of_move c.args.moving.now) c.in-Err.stop c.in-Err.is;
}

pub returns-in-Err-may_replace : goal.returns-in-Err-may_replace
returns-in-Err-may_replace g c = record {
  exact = c.answered.ensures ∙ target_remains (g.V.View.leased c.args.view.now)
      (values (g.V.Inodes.contents c.args.view.now)) c.args.reads.items c.reach.new.reads.items c.args.target c.in_ok-replaced.field-0
      c.in_ok-replaced.ensures.left c.args.moving.now.from.content.now c.args.moving.now.directory c.args.moving.now.new_name.now
      (effects_of_move c.args.moving.now) c.in-Ok.replaced c.in-Ok.is c.in-Err-may_replace.error (sym c.in-Err-may_replace.ensures);
}

pub returns : goal.returns
returns g c = record {
  exact =
      c.finished.ensures
      ∙ ap (λ es. plan_from (g.V.View.leased c.args.view.now) (values (g.V.Inodes.contents c.args.view.now)) c.reach.new.reads.items (finish Done es))
      (c.in_ok-push_move.ensures.moved ∙ ap (λ es. es ++ effects_of_move c.args.moving.now) c.in_ok-effects.ensures.effects)
      ∙ target_goes (g.V.View.leased c.args.view.now) (values (g.V.Inodes.contents c.args.view.now)) c.args.reads.items c.reach.new.reads.items c.args.target
      c.in_ok-replaced.field-0 c.in_ok-replaced.ensures.left c.args.moving.now.from.content.now c.args.moving.now.directory c.args.moving.now.new_name.now
      (effects_of_move c.args.moving.now) c.in-Ok.replaced c.in-Ok.is (sym c.in_default.ensures);
}
