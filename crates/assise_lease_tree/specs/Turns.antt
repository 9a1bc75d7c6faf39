-- What an acquire answers.
use Rattle.std.specs.Prelude.{Bool, true, false, List}
use Rattle.assise_lease_table.specs.declared.lease.Asked.{Asked}
use Rattle.assise_lease_tree.specs.declared.acquired.Acquired.{Acquired}
use Rattle.assise_lease_tree.specs.declared.acquired.Acquired.TheVariants.{Granted, Asked as WereAsked}

-- the mode is granted
abbrev pub is_granted : Acquired → Bool
is_granted Granted = true
is_granted (WereAsked asked) = false

-- the one fact where the mode is granted, and the other of who was asked
abbrev pub MatchAcquired : Acquired → Type 0 → (List Asked → Type 0) → Type 0
MatchAcquired Granted P Q = P
MatchAcquired (WereAsked asked) P Q = Q asked.items
