use Rattle.assise_lease_table.proofs.Common.{nat_eq, take, get, AnswerAll}
use Rattle.assise_lease_table.proofs.asking.answers.Given as goal

abbrev pub invariant-loop-lease : goal.invariant-loop-lease
invariant-loop-lease g l = AnswerAll g.C.Revokes.answers (get nat_eq l.revokers) (g.V.Views.view_of l.views) l.inode (g.T.Chooses.choice l.test)
    (take l.lease-index l.leases) l.asked.items
