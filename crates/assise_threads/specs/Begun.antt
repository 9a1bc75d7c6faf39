-- The cluster that a script's first command makes.
use Rattle.std.specs.Prelude.{◌≡◌, ℕ, List, [], ◌∷◌}
use Rattle.assise_fault_script.specs.declared.command.Command.{Command}
use Rattle.assise_fault_script.specs.declared.command.Command.TheVariants.{Cluster, Manual, Open, Call, Carry, Link, Hot, Digest, Release, Crash, Fail, Back, Refill, Join, Raise, Tree, History, Check}
use Rattle.assise_fault_script.specs.declared.parse.NumberedCommand.{NumberedCommand}
use Rattle.assise_model_events.specs.Machine.{Machine, begun_as}
use Rattle.assise_machine.specs.Clusters.{machine}
use Rattle.assise_machine.specs.declared.cluster.ClusterOf.{ClusterOf}

-- it has `nodes` nodes, logs of limit `log`, and `hot` inodes may be hot at each node
pub record IsClusterOf {C : Type 0} (nodes log hot : ℕ) (cluster : ClusterOf C) (count : ℕ) : Type 0 where
  pub begun : machine cluster ≡ begun_as nodes log hot
  pub all : count ≡ nodes

-- the machine that the command makes; a script's first command makes one
abbrev pub machine_made : Command → Machine
machine_made (Cluster nodes log hot) = begun_as nodes log hot
machine_made command = begun_as 1 1 1

abbrev pub IsBegunAs : {C : Type 0} → Command → ClusterOf C → ℕ → Type 0
IsBegunAs (Cluster nodes log hot) cluster count = IsClusterOf nodes log hot cluster count
IsBegunAs command cluster count = ⊥

-- the machine that the first command makes
abbrev pub machine_begun : List NumberedCommand → Machine
machine_begun [] = begun_as 1 1 1
machine_begun (l ∷ ls) = machine_made l.command
