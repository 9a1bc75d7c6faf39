use Rattle.assise_rounds.proofs.Common.{◌≡◌, map, ◌-◌, machine, Told, FaithfulAt, EachFull, TakesTurn, WithWork}
use Rattle.assise_rounds.proofs.rounds.replicate_all.Given as goal

-- what the nodes before did, each over its link
abbrev pub invariant-loop-node : goal.invariant-loop-node
invariant-loop-node g l = record {
  each : (es : Told) × WithWork (EachFull (λ n. TakesTurn (FaithfulAt (map g.L.Link.kind l.fn.links) n) n) (l.node - 1)) l.busy (machine l.fn.cluster) es
      (machine l.cluster);
  stay : map g.L.Link.kind l.links ≡ map g.L.Link.kind l.fn.links;
}
