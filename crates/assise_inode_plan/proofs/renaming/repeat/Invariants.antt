use Rattle.assise_inode_plan.proofs.Common.{◌≡◌, ◌++◌, ◌+◌, ◌≤◌, length, take}
use Rattle.assise_inode_plan.proofs.renaming.repeat.Given as goal

abbrev pub invariant-loop-place : goal.invariant-loop-place
invariant-loop-place l = record {
  repeated : l.visits.items ≡ l.fn.visits.items ++ take l.place l.fn.visits.items;
  room : length l.visits.items + l.count ≤ l.visits.capacity + l.place;
}
