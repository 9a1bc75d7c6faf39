-- What all full nodes have digested, all have.
use Rattle.assise_model_world.proofs.Common.{ℕ, ◌≤◌, arith, CallsInvariant, World, digested_by_all, received_by_all}
use Rattle.assise_model_world.proofs.Shared.WorldObserved.{least_of-below, least_of-above, least_of-end, received_by_all-below}

-- every Full node has digested no more than all have received
pub digested_by_all-received_by_all : (w : World) → CallsInvariant w → (c : ℕ) → digested_by_all w c ≤ received_by_all w c
unfolding received_by_all digested_by_all
digested_by_all-received_by_all w s c = grind (arith, least_of-above, least_of-end, least_of-below, received_by_all-below)
