use Rattle.assise_lease_tree.proofs.Common.{nat_eq, sym, subst, ◌∙◌, IfOk, get, Among, clients_at, in_way, levels_of, stored_by}
use Rattle.assise_lease_table.specs.Answers.{AnswerAll}
use Rattle.assise_lease_tree.proofs.CallsOnLevels.{tree_lawful, has_home}
use Rattle.assise_lease_tree.proofs.lease_tree.LeaseTreeOf.answers.Goals as goal

pub answers-requires-clause-enrolled : goal.answers-requires-clause-enrolled
answers-requires-clause-enrolled g c l among =
    sym (c.args.self.now.known l.holder) ∙ has_home (levels_of c.args.self.now) (tree_lawful c.args.self.now) c.args.request.inode l
    (subst (λ ls. Among ls l) c.clients-clients.ensures among)

pub returns-clause-answers : goal.returns-clause-answers
returns-clause-answers g c =
    subst (λ ns. IfOk c.answers.result
    (λ asked. AnswerAll g.C.Revokes.answers (stored_by c.args.self.now) (g.V.Views.view_of c.args.views.now) c.args.request.inode
    (in_way (get nat_eq c.args.self.now.homes) ns c.args.request.client c.args.request.node c.args.request.mode)
    (clients_at c.args.self.now.leases c.args.request.inode) asked.items)) c.nodes.ensures
    (subst (λ cs. IfOk c.answers.result
    (λ asked. AnswerAll g.C.Revokes.answers (stored_by c.args.self.now) (g.V.Views.view_of c.args.views.now) c.args.request.inode
    (in_way (get nat_eq c.args.self.now.homes) c.nodes.result.now c.args.request.client c.args.request.node c.args.request.mode) cs asked.items))
    c.clients-clients.ensures c.answers.ensures.answers)
