-- The state ends as what is left behind the borrow.
use Rattle.std.specs.Borrow.{Lends, MutBor, Fml}
use denote.RattleType.{RattleType}
use Rattle.assise_keeper.specs.contracts.held.Held.{the_row}

abbrev pub LendsState : (R : RattleType) → MutBor R.Denot → MutBor R.Denot → Fml
LendsState R s r = Lends (the_row R) R s r (λ w. w)
