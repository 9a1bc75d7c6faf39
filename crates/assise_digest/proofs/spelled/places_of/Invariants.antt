use Rattle.assise_digest.proofs.Common.{◌-◌, length, map, values, postorder, shape}
use Rattle.assise_digest.proofs.Listed.{IsListed}
use Rattle.assise_digest.proofs.spelled.places_of.Given as goal

abbrev pub invariant-loop-next : goal.invariant-loop-next
invariant-loop-next g l = IsListed (values (g.I.Inodes.contents l.inodes)) g.t l.pending.items (map shape l.places.items)

abbrev pub decreases-loop-next : goal.decreases-loop-next
decreases-loop-next g l = length (postorder g.t) - length l.places.items
