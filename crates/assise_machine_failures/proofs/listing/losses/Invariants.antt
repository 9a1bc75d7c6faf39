use Rattle.assise_machine_failures.proofs.Common.{◌≡◌, map, losses_to, world_of, value_of, loss_of}
use Rattle.assise_machine_failures.proofs.listing.losses.Given as goal

-- what the first clients lose
abbrev pub invariant-loop-place : goal.invariant-loop-place
invariant-loop-place g l = map loss_of l.losses.items ≡ losses_to (world_of (value_of l.state)) l.node l.place
