-- What led to a state leads to one behind it.
use Rattle.assise_keeper.proofs.Common.{◌≡◌, Option, Some, None, subst, sym, IsLed}

pub led_further : {S : Type 0} (leads : S → S → Type 0) (onward : (s t u : S) → leads s t → leads t u → leads s u) (n : Option S) (s t : S) → leads s t →
    IsLed leads n (Some s) → IsLed leads n (Some t)
led_further leads onward None s t step led = tt
led_further leads onward (Some a) s t step led = onward a s t led step

-- from the state that was taken
pub led_from : {S : Type 0} (leads : S → S → Type 0) (taken : Option S) (s t : S) → taken ≡ Some s → leads s t → IsLed leads taken (Some t)
led_from leads taken s t is step = subst (λ z. IsLed leads z (Some t)) (sym is) step
