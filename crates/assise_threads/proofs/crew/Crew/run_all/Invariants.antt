use Rattle.assise_threads.proofs.Common.{◌≡◌, ◌≤◌, ◌-◌, length, take, sights, AreAllSaid, AreClients, main_keeper, main_seen}
use Rattle.assise_threads.proofs.crew.Crew.run_all.Given as goal

-- `done` commands were answered
abbrev pub invariant-loop-done : goal.invariant-loop-done
invariant-loop-done g l = record {
  few : l.done ≤ length l.commands;
  turns : l.self.turns ≡ l.fn.self.turns;
  at : AreClients (main_keeper l.self.main) l.self.turns l.clients.items;
  said : AreAllSaid l.fn.self.turns (main_seen l.fn.self.main) (take l.done l.commands) (main_seen l.self.main) (sights l.clients.items)
      (g.W.Write.contents l.fn.writer) (g.W.Write.contents l.writer);
}

abbrev pub decreases-loop-done : goal.decreases-loop-done
decreases-loop-done g l = length l.commands - l.done
