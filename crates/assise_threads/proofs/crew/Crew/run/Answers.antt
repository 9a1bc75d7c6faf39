use Rattle.assise_threads.proofs.Common.{ap, subst, ◌∙◌, sights, AreAllSaid, main_seen}
use Rattle.assise_threads.proofs.LedTakes.{begun_history}
use Rattle.assise_threads.proofs.RunOn.{is_run_said}
use Rattle.assise_threads.proofs.crew.Crew.run.Goals as goal

pub returns-clause-done : goal.returns-clause-done
returns-clause-done g c = is_run_said c.args.self.turns c.args.commands.now (main_seen c.run_all.new.self.main) c.run_all.new.clients.items
    (g.W.Write.contents c.args.writer.now) (g.W.Write.contents c.run_all.new.writer) c.end.ensures.0
    (subst (λ z. AreAllSaid c.args.self.turns z c.args.commands.now (main_seen c.run_all.new.self.main) (sights c.run_all.new.clients.items)
    (g.W.Write.contents c.args.writer.now) (g.W.Write.contents c.run_all.new.writer)) c.requires c.in_ok-run_all.ensures.done)
    c.end.ensures.1

pub run_all-requires-clause-nothing_seen : goal.run_all-requires-clause-nothing_seen
run_all-requires-clause-nothing_seen g c = λ bounds lives. ap (λ m. m.history) c.requires ∙ begun_history c.args.commands.now
