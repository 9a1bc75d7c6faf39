use Rattle.assise_machine_failures.proofs.Common.{◌≡◌, world_of, value_of, kept_inodes}
use Rattle.assise_machine_failures.proofs.listing.touched_inodes.Given as goal

-- the inodes of the first clients' records
abbrev pub invariant-loop-place : goal.invariant-loop-place
invariant-loop-place g l = l.inodes.items ≡ kept_inodes (world_of (value_of l.state)) l.node l.place
