use Rattle.assise_lease_table.proofs.Common.{◌+◌, nat_eq, sym, subst, ◌∙◌, get_or, take, ap, get, Asked, AnswerAll}
use Rattle.std.specs.Global.{Vec}
use Rattle.assise_lease_table.proofs.AskLoop.{no_lease, among_at, asked_more, asked_same}
use Rattle.assise_lease_table.proofs.asking.answers.Goals as goal
use Rattle.assise_lease_table.proofs.asking.answers.Goals.{then-is_to_ask+in_ok-push, else-is_to_ask}

pub answer-requires-clause-enrolled : goal.answer-requires-clause-enrolled
answer-requires-clause-enrolled g c = c.requires.enrolled (get_or c.args.leases.now c.loop-lease.lease-index no_lease)
    (among_at c.args.leases.now c.loop-lease.lease-index no_lease c.loop-lease-test.true)

pub answer-requires-clause-viewed : goal.answer-requires-clause-viewed
answer-requires-clause-viewed g c =
    c.requires.viewed (get_or c.args.leases.now c.loop-lease.lease-index no_lease)
    (among_at c.args.leases.now c.loop-lease.lease-index no_lease c.loop-lease-test.true) (sym c.is_to_ask.ensures ∙ c.if-is_to_ask.true)

pub loop-lease-preserved : goal.loop-lease-preserved
loop-lease-preserved g c = elim c.if-is_to_ask.branch [
  | then-is_to_ask+in_ok-push w ↦
      subst (AnswerAll g.C.Revokes.answers (get nat_eq c.args.revokers.now) (g.V.Views.view_of c.args.views.now) c.args.inode
      (g.T.Chooses.choice c.args.test.now) (take (c.loop-lease.lease-index + 1) c.args.leases.now))
      (sym (ap (λ (v : Vec Asked). v.items) w.asked-is ∙ w.in_ok-push.ensures.items))
      (asked_more g.C.Revokes.answers (get nat_eq c.args.revokers.now) (g.V.Views.view_of c.args.views.now) c.args.inode (g.T.Chooses.choice c.args.test.now)
      c.args.leases.now c.loop-lease.lease-index no_lease c.loop-lease.asked.items w.answer.result c.loop-lease-test.true c.loop-lease.invariant
      (sym c.is_to_ask.ensures ∙ w.if-is_to_ask.true) w.answer.ensures.client_is w.answer.ensures.answer)
  | else-is_to_ask w ↦
      subst (AnswerAll g.C.Revokes.answers (get nat_eq c.args.revokers.now) (g.V.Views.view_of c.args.views.now) c.args.inode
      (g.T.Chooses.choice c.args.test.now) (take (c.loop-lease.lease-index + 1) c.args.leases.now)) (sym (ap (λ (v : Vec Asked). v.items) w.asked-is))
      (asked_same g.C.Revokes.answers (get nat_eq c.args.revokers.now) (g.V.Views.view_of c.args.views.now) c.args.inode (g.T.Chooses.choice c.args.test.now)
      c.args.leases.now c.loop-lease.lease-index no_lease c.loop-lease.asked.items c.loop-lease-test.true c.loop-lease.invariant
      (sym c.is_to_ask.ensures ∙ w.if-is_to_ask.false))
]
