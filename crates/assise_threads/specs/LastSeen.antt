-- The machine of a cluster that a pass has seen last.
use Rattle.std.specs.Prelude.{Option, None, Some}
use Rattle.assise_machine.specs.Clusters.{machine}
use Rattle.assise_machine.specs.declared.cluster.ClusterOf.{ClusterOf}
use Rattle.assise_model_events.specs.Machine.{Machine, begun_as}

-- a pass has seen one from the first give on
abbrev pub machine_seen : {C : Type 0} → Option (ClusterOf C) → Machine
machine_seen None = begun_as 1 1 1
machine_seen (Some cluster) = machine cluster
