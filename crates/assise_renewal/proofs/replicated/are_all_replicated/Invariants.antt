use Rattle.assise_renewal.proofs.Common.{ℕ, ◌≤◌, HasReplicatedAll}
use Rattle.assise_renewal.proofs.replicated.are_all_replicated.Given as goal

-- so far no client has a call that some full node may lack
abbrev pub invariant-loop-client : goal.invariant-loop-client
invariant-loop-client g l = (c : ℕ) → 1 ≤ c → c ≤ l.client → HasReplicatedAll l.cluster c
