use Rattle.assise_fault_script.proofs.Common.{◌-◌, length}
use Rattle.assise_fault_script.proofs.recent_paths.RecentPaths.new.Given as goal

abbrev pub decreases-loop-places : goal.decreases-loop-places
decreases-loop-places l = 16 - length l.places.items
