use Rattle.assise_rounds.proofs.Common.{◌≡◌, ◌≤◌, map, machine, FaithfulAt, Told, InVain}
use Rattle.assise_rounds.proofs.attempts.settle_call.Given as goal

-- `counter` tries were in vain
abbrev pub invariant-loop : goal.invariant-loop
invariant-loop g l = record {
  tries : (es : Told) × InVain (FaithfulAt (map g.L.Link.kind l.fn.links)) l.client l.op l.counter (machine l.fn.cluster) es (machine l.cluster);
  stay : map g.L.Link.kind l.links ≡ map g.L.Link.kind l.fn.links;
  few : l.counter ≤ l.turns;
}
