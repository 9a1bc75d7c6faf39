-- What is said of a node that isn't full, and which nodes begin a log.
use Rattle.assise_machine_state.proofs.Common.{◌≡◌, ◌≢◌, ◌⊎◌, ℕ, suc, ◌+◌, ◌==◌, true, false, Option, Some, None, Ok, Err, List, ◌∷◌, refl, sym, ◌∙◌, arith}
use Rattle.assise_machine_state.proofs.Common.{Refusal, contains, RegionValue, region_with_client, Standing, full, full_nodes, phase_of, standing_of, begun_log}
use Rattle.assise_machine_state.proofs.Common.{with_logs_begun, is_full_in, stands_full}
use Rattle.assise_manager.specs.declared.phase.Phase.{Phase}
use Rattle.assise_manager.specs.declared.phase.Phase.TheVariants.{Down, Full, Returning}
use Rattle.assise_model_events.specs.Faults.{unless_full}
use Rattle.assise_machine_state.proofs.Shared.OwnLogs.{listed_is}

-- why a question about a node that isn't full is refused

pub none_refused : (w : Refusal) (o : Option Standing) (r : Refusal) → phase_of o ≡ Err r → unless_full w o ≡ Some r
none_refused w o r h1 = grind arith

pub away_refused : (w : Refusal) (o : Option Standing) (p : Phase) → phase_of o ≡ Ok p → p ≢ Full → unless_full w o ≡ Some w
away_refused w o p h1 h2 = grind arith

pub away_other : (p : Phase) → (p ≡ Down) ⊎ (p ≡ Returning) → p ≢ Full
away_other p h1 = grind arith

pub full_served : (w : Refusal) (o : Option Standing) → phase_of o ≡ Ok Full → unless_full w o ≡ None
full_served w o h1 = grind arith

full_phase : (o : Option Standing) → phase_of o ≡ Ok Full → stands_full o ≡ true
full_phase o h1 = grind arith

pub phase_full : (nodes : List Standing) (n : ℕ) → phase_of (standing_of nodes n) ≡ Ok Full → is_full_in nodes n ≡ true
unfolding is_full_in
phase_full nodes n same = full_phase (standing_of nodes n) same

-- the first of the nodes begins a log, or it isn't full

pub begins : (nodes : List Standing) (limit home n : ℕ) (r : RegionValue) (rs : List RegionValue) → contains (full_nodes nodes) n ≡ true →
    with_logs_begun (is_full_in nodes) limit home n (r ∷ rs) ≡ region_with_client r (begun_log limit (n == home)) ∷ with_logs_begun (is_full_in nodes) limit
    home (n + 1) rs
begins nodes limit home n r rs listed =
    (let next : suc n ≡ n + 1 = omega arith in let f : is_full_in nodes n ≡ true = sym (listed_is nodes n) ∙ listed in rw (f, next) refl)

pub begins_none : (nodes : List Standing) (limit home n : ℕ) (r : RegionValue) (rs : List RegionValue) → contains (full_nodes nodes) n ≡ false →
    with_logs_begun (is_full_in nodes) limit home n (r ∷ rs) ≡ r ∷ with_logs_begun (is_full_in nodes) limit home (n + 1) rs
begins_none nodes limit home n r rs other =
    (let next : suc n ≡ n + 1 = omega arith in let f : is_full_in nodes n ≡ false = sym (listed_is nodes n) ∙ other in rw (f, next) refl)
