-- A cluster has few nodes and few clients.
use Rattle.assise_machine.proofs.Common.{◌≤◌, length, subst, le_prop, ∥∥₁_elim, MOST_CLIENTS, MOST_NODES, observed, ClusterOf, machine}

pub few_clients : {C : Type 0} (cluster : ClusterOf C) → (machine cluster).world.clients ≤ MOST_CLIENTS
few_clients cluster = ∥∥₁_elim cluster.sound.invariant.holds le_prop (λ h. h.clients)

pub few_nodes : {C : Type 0} (cluster : ClusterOf C) → length (machine cluster).members.nodes ≤ MOST_NODES
unfolding observed
few_nodes cluster = subst (λ n. n ≤ MOST_NODES) cluster.sound.invariant.shape.nodes cluster.sound.invariant.shape.few_nodes
