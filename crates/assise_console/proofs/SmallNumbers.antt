-- A number that takes more than 32 bits names no node and no client: there are few.
use Rattle.assise_console.proofs.Common.{◌^◌, ◌≤◌, ◌<◌, ℕ, length, arith, machine, ClusterOf, few_clients, few_nodes}

pub no_node_so_large : {C : Type 0} (cluster : ClusterOf C) {n : ℕ} → 2 ^ 32 ≤ n → length (machine cluster).members.nodes < n
no_node_so_large cluster large = (let few = few_nodes cluster in omega (arith, few, large))

pub no_client_so_large : {C : Type 0} (cluster : ClusterOf C) {n : ℕ} → 2 ^ 32 ≤ n → (machine cluster).world.clients < n
no_client_so_large cluster large = (let few = few_clients cluster in omega (arith, few, large))
