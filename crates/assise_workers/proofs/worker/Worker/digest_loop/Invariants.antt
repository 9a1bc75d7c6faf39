use Rattle.assise_workers.proofs.Common.{List, DigestsSome, TurnAfterTurn, GoesOn, seen_at, TurnEnd}
use Rattle.assise_workers.proofs.worker.Worker.digest_loop.Given as goal

-- the worker goes on, turn after turn
abbrev pub invariant-loop : goal.invariant-loop
invariant-loop g l = record {
  goes : GoesOn l.fn.self l.self;
  turns : (ends : List TurnEnd) × TurnAfterTurn (DigestsSome g.S.Growing.history g.S.Replicated.acts l.fn.node) ends (seen_at l.fn.self) (seen_at l.self);
}
