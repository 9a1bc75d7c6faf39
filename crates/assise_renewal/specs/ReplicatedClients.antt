-- Whose calls are all replicated.
use Rattle.std.specs.Prelude.{◌≤◌, ℕ}
use Rattle.assise_history.specs.Legal.{calls_made}
use Rattle.assise_model_world.specs.World.{IsClient}
use Rattle.assise_machine.specs.declared.cluster.ClusterOf.{ClusterOf}
use Rattle.assise_machine.specs.Clusters.{machine}
use Rattle.assise_machine.specs.Headline.{replicated_to}

-- of the client, if there is such a one, no call is left that some full node may lack
abbrev pub HasReplicatedAll : {C : Type 0} → ClusterOf C → ℕ → Type 0
HasReplicatedAll cluster c = IsClient (machine cluster).world c → calls_made c (machine cluster).history ≤ replicated_to cluster c
