-- The turns of a cluster's clients.
use Rattle.std.specs.Prelude.{ℕ, List}
use Rattle.assise_history.specs.Entries.{EntryValue}
use Rattle.assise_manager.specs.NodeLevels.{level_of, newest}
use Rattle.assise_machine.specs.Clusters.{machine}
use Rattle.assise_machine.specs.declared.cluster.ClusterOf.{ClusterOf}
use Rattle.assise_model_events.specs.Events.{Answer, ClusterEvent}
use Rattle.assise_model_events.specs.Happenings.{Happens}

abbrev pub cluster_history : {C : Type 0} → ClusterOf C → List EntryValue
cluster_history s = (machine s).history

-- what an event does to it is what the laws say
abbrev pub cluster_acts : {C : Type 0} → ClusterOf C → ClusterEvent → Answer → ClusterOf C → Type 0
cluster_acts s e a t = Happens (machine s) e a (machine t)

-- the newest version of frames that each of its nodes reads
abbrev pub cluster_reads : {C : Type 0} → ClusterOf C → ℕ → ℕ
cluster_reads s n = newest (level_of (machine s).members.levels n)
