use Rattle.assise_lease_table.proofs.Common.{refl, rules, subst, sym}
use Rattle.assise_private_log.specs.Touches.{Covers}
use Rattle.assise_lease_table.proofs.asking.answer.Goals as goal

pub returns-clause-answer : goal.returns-clause-answer
returns-clause-answer g c = record {
  inode_is = refl;
  revoker = c.in-Some.revoker.now;
  stored = search rules;
  view = c.in-Some-view.view.now;
  seen = search rules;
  answered = record { answer = c.cut.result; answered = c.cut.ensures.answer; cut_is = c.group_end.ensures.end };
  covers = subst (Covers c.in-Some-view.view.now c.args.inode) (sym c.group_end.ensures.end) (c.group_end.ensures.covers c.args.inode c.cut.ensures.covers);
}
