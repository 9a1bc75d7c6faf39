-- What is seen of a cluster that one caller uses.
use Rattle.std.specs.Prelude.{ℕ, List, Option, map}
use Rattle.assise_link.specs.Kinds.{Kind}
use Rattle.assise_link.specs.TestLinks.{kind_of_link}
use Rattle.assise_machine.specs.declared.cluster.ClusterOf.{ClusterOf}
use Rattle.assise_machine.specs.Clusters.{machine, revokers}
use Rattle.assise_machine.specs.Headline.{replicated_calls, replicated_to}
use Rattle.assise_model_events.specs.Machine.{Machine}
use Rattle.assise_renewal.specs.Renewal.{tree_kept}
use Rattle.assise_history.specs.Kept.{tree_after}
use Rattle.assise_seq_tree.specs.Tree.{Tree, opening}
use Rattle.assise_files.specs.declared.cut_kind.CutKind.{CutKind}
use Rattle.assise_files.specs.declared.files.Files.{Files}

-- what the laws observe of it
abbrev pub cluster_seen : Files → Machine
cluster_seen files = machine files.cluster

-- how often a call is tried at most
abbrev pub most_tries : Files → ℕ
most_tries files = files.turns

-- of which kind each node's link is, from node 1 on
abbrev pub links_seen : Files → List Kind
links_seen files = map kind_of_link files.links

-- the revoker of each client
abbrev pub kinds_seen : Files → ℕ → Option CutKind
kinds_seen files = revokers files.cluster

-- how many calls of each client are replicated
abbrev pub replicated_seen : Files → ℕ → ℕ
replicated_seen files c = replicated_to files.cluster c

-- its cluster, and the tree of all calls of it that no failure took
abbrev pub own_cluster : Files → ClusterOf CutKind
own_cluster files = files.cluster

abbrev pub tree_seen : Files → Tree
tree_seen files = tree_kept files.cluster

-- the tree of all replicated calls
abbrev pub safe_tree_seen : Files → Tree
safe_tree_seen files = tree_after opening (replicated_calls files.cluster)
