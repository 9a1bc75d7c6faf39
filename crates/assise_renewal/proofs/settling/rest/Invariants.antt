use Rattle.assise_renewal.proofs.Common.{machine, IsDsync, IsLedBy}
use Rattle.assise_renewal.proofs.settling.rest.Given as goal

abbrev pub invariant-loop : goal.invariant-loop
invariant-loop g l = IsLedBy IsDsync (machine l.fn.cluster) (machine l.cluster)
