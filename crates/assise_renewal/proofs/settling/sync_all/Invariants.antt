use Rattle.assise_renewal.proofs.Common.{machine, IsDsync, IsLedBy}
use Rattle.assise_renewal.proofs.settling.sync_all.Given as goal

abbrev pub invariant-loop-client : goal.invariant-loop-client
invariant-loop-client g l = IsLedBy IsDsync (machine l.fn.cluster) (machine l.cluster)
