use Rattle.assise_rounds.proofs.Common.{◌-◌, machine, Told, EachFull, DigestsOnce, WithWork}
use Rattle.assise_rounds.proofs.rounds.digest_all.Given as goal

-- what the nodes before did
abbrev pub invariant-loop-node : goal.invariant-loop-node
invariant-loop-node g l = (es : Told) × WithWork (EachFull DigestsOnce (l.node - 1)) l.busy (machine l.fn.cluster) es (machine l.cluster)
