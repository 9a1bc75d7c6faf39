use Rattle.assise_workers.proofs.Common.{◌≡◌, List, perfect, Replicates, TurnAfterTurn, GoesOn, seen_at, TurnEnd}
use Rattle.assise_workers.proofs.worker.Worker.replicate_loop.Given as goal

-- the worker goes on, turn after turn
abbrev pub invariant-loop : goal.invariant-loop
invariant-loop g l = record {
  goes : GoesOn l.fn.self l.self;
  stays : g.L.Link.kind l.link ≡ g.L.Link.kind l.fn.link;
  turns : (ends : List TurnEnd)
      × TurnAfterTurn (λ end a b. Replicates g.S.Growing.history g.S.Replicated.acts (g.L.Link.kind l.fn.link ≡ perfect) g.S.Replicated.reads l.fn.node end a b)
      ends (seen_at l.fn.self) (seen_at l.self);
}
