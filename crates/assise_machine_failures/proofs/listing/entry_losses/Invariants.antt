use Rattle.assise_machine_failures.proofs.Common.{◌≡◌, map, take, loss_of}
use Rattle.assise_machine_failures.proofs.listing.entry_losses.Given as goal

-- the first of them
abbrev pub invariant-loop-client : goal.invariant-loop-client
invariant-loop-client l = l.noted.items ≡ map loss_of (take l.client-index l.losses)
