-- Where no fault stands: what holds of clients and nodes.
use Rattle.assise_model_events.proofs.Common.{◌≡◌, ℕ, true, false, Option, Some, None, refl, sym, arith, none-some, Refusal, Standing, full, client_fault}
use Rattle.assise_model_events.proofs.Common.{or_else, unless_full, Machine}

-- neither of two faults stands
pub first_none : (a b : Option Refusal) → or_else a b ≡ None → a ≡ None
first_none None b e = refl
first_none (Some r) b e = absurd (none-some r (sym e))

pub stands_full : (r : Refusal) (s : Option Standing) → unless_full r s ≡ None → s ≡ Some full
stands_full r s e = grind (arith, none-some)

pub client_runs : (m : Machine) (c : ℕ) → client_fault m c ≡ None → (m.world.lives c ≡ true) × (m.world.crashed c ≡ false)
client_runs m c fine = grind (arith, first_none)
