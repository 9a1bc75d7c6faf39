-- What is seen of a cluster.
use Rattle.std.specs.Prelude.{◌≡◌, ℕ, suc, ◌<◌, List, length, slice_index_or, Option}
use Rattle.std.proofs.Math.Bridge.{le_prop}
use Rattle.std.proofs.Math.Logic.{∥∥₁_elim}
use Rattle.assise_history.specs.Opened.{OpensOnce}
use Rattle.assise_history.proofs.Shared.ClientCounts.{opens_once}
use Rattle.assise_digest.specs.Region.{RegionValue}
use Rattle.assise_lease_tree.specs.Trees.{stored_by}
use Rattle.assise_model_world.specs.World.{World, received_by_all}
use Rattle.assise_model_events.specs.Machine.{Machine}
use Rattle.assise_machine_state.specs.NodeValues.{region_in}
use Rattle.assise_machine_state.specs.Whole.{machine_of}
use Rattle.assise_machine.specs.declared.cluster.ClusterOf.{ClusterOf}

-- what the laws observe
abbrev pub machine : {C : Type 0} → ClusterOf C → Machine
machine cluster = machine_of cluster.sound.state

-- what a node has
abbrev pub region_of : {C : Type 0} → ClusterOf C → ℕ → RegionValue
region_of cluster n = region_in cluster.sound.state.nodes n

-- the revoker of a client
abbrev pub revokers : {C : Type 0} → ClusterOf C → ℕ → Option C
revokers cluster = stored_by cluster.sound.state.leases

-- there is a number for each client, below which all full nodes have its records
pub record AreAcked (w : World) (acked : List ℕ) : Type 0 where
  pub count : length acked ≡ w.clients
  pub each : (c : ℕ) → c < w.clients → slice_index_or acked c 0 ≡ received_by_all w (suc c)

-- in its history each client is opened once
pub opened_once : {C : Type 0} (cluster : ClusterOf C) → OpensOnce (machine cluster).history
opened_once cluster = λ c. ∥∥₁_elim cluster.sound.invariant.holds le_prop (λ h. opens_once (machine cluster).history h.recorded.legal c)
