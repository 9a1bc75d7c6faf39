-- A new cluster with the tree of an old one.
-- Assise (OSDI 2020), section 3 (prefix crash consistency: what is replicated is a prefix of each client's calls).
use Rattle.std.specs.Prelude.{◌≡◌, ◌≤◌, ℕ, List, ◌∷◌}
use Rattle.std.specs.List.{AllByRecursion}
use Rattle.assise_names.specs.declared.durability.Durability.TheVariants.{Pessimistic}
use Rattle.assise_seq_tree.specs.Tree.{Tree, opening}
use Rattle.assise_history.specs.Entries.{EntryValue, opens, calls, crashes, fails, returns}
use Rattle.assise_history.specs.Kept.{kept, tree_after}
use Rattle.assise_history.specs.Legal.{IsLegal}
use Rattle.assise_inode_table.specs.Spelled.{Spells}
use Rattle.assise_digest.specs.Region.{alone}
use Rattle.assise_model_events.specs.ClientEvents.{Opening}
use Rattle.assise_model_events.specs.Events.{opened}
use Rattle.assise_model_events.specs.Machine.{Machine, begun_as}
use Rattle.assise_machine.specs.declared.cluster.ClusterOf.{ClusterOf}
use Rattle.assise_machine.specs.Clusters.{machine, region_of}
use Rattle.assise_machine.specs.Headline.{IsUp, all_acked, history_of, replicated_calls}
use Rattle.assise_renewal.specs.declared.renewal.Sizes.{Sizes}
use Rattle.assise_renewal.specs.Led.{IsLedBy, IsOfFirst}

-- the tree of all calls that no failure took, replicated or not
abbrev pub tree_kept : {C : Type 0} → ClusterOf C → Tree
tree_kept cluster = tree_after opening (kept (history_of cluster))

-- nodes 1 to this are up
abbrev pub AreUp : {C : Type 0} → ClusterOf C → ℕ → Type 0
AreUp cluster nodes = (n : ℕ) → 1 ≤ n → n ≤ nodes → IsUp cluster n

-- nothing happened in it but that client 1 was opened on node 1, and made calls, with rounds between
pub record IsBegunBy (sizes : Sizes) (m : Machine) : Type 0 where
  pub with_client : Machine
  pub opening : Opening (begun_as sizes.nodes sizes.log sizes.hot) 1 Pessimistic (opened 1) with_client
  pub led : IsLedBy IsOfFirst with_client m

abbrev pub IsCallOfFirst : EntryValue → Type 0
IsCallOfFirst (calls x) = x.client ≡ 1
IsCallOfFirst (opens c n u) = ⊥
IsCallOfFirst (crashes c) = ⊥
IsCallOfFirst (fails n losses) = ⊥
IsCallOfFirst (returns n) = ⊥

-- client 1 is opened on node 1, and all that follows are its answered calls
pub record IsOfOneClient (h : List EntryValue) : Type 0 where
  pub since : List EntryValue
  pub split : h ≡ opens 1 1 Pessimistic ∷ since
  pub each : AllByRecursion IsCallOfFirst since

-- The cluster is new, and has one client. All calls of its legal history are this client's and are replicated. The tree that they make
-- is this one, and each node that is up has it alone.
pub record IsRenewed {C : Type 0} (t : Tree) (sizes : Sizes) (cluster : ClusterOf C) : Type 0 where
  pub begun : IsBegunBy sizes (machine cluster)
  pub legal : IsLegal (history_of cluster)
  pub client : IsOfOneClient (history_of cluster)
  pub safe : replicated_calls cluster ≡ kept (history_of cluster)
  pub tree : tree_kept cluster ≡ t
  pub replicated : tree_after opening (replicated_calls cluster) ≡ t
  pub up : AreUp cluster sizes.nodes
  pub alone : (n : ℕ) → IsUp cluster n → Spells (alone (region_of cluster n) (all_acked cluster)) t
