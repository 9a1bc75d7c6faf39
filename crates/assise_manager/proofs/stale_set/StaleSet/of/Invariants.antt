use Rattle.assise_manager.proofs.Common.{◌≡◌, map, take, all_inodes, listed_inodes}
use Rattle.std.specs.FinSet as set
use Rattle.assise_manager.proofs.stale_set.StaleSet.of.Given as goal

abbrev pub invariant-loop-list : goal.invariant-loop-list
invariant-loop-list l = set.from_list l.inodes.items ≡ all_inodes (map listed_inodes (take l.list-index l.lists))
