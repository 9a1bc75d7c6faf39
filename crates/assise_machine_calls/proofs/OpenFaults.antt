-- Why a client can't be opened, and where it can.
use Rattle.assise_machine_calls.proofs.Common.{◌≡◌, ◌≢◌, ℕ, ◌<◌, ◌≤◌, nat_le, Bool, true, false, Option, Some, None, Ok, Err, length, inl, inr, refl, sym, ◌∙◌}
use Rattle.assise_machine_calls.proofs.Common.{arith, cases_Bool, le-leb, leb-false, leb-true, Refusal, BadClient, NodeDown, MOST_CLIENTS, Standing, down, full}
use Rattle.assise_machine_calls.proofs.Common.{phase_of, returning, standing_of, fault_if, open_fault, or_else, unless_full, is_full_in, observed, stands_full}
use Rattle.assise_machine_calls.proofs.Common.{world_of, StateValue, standings, away_refused, full_served, none_refused}
use Rattle.assise_manager.specs.declared.phase.Phase.{Phase}
use Rattle.assise_manager.specs.declared.phase.Phase.TheVariants.{Full}

-- the fault, by what is known of the node and of how many clients there are
fault_is : (s : StateValue) (n : ℕ) → open_fault (observed s) n ≡ or_else (unless_full NodeDown (standing_of (standings s) n))
    (fault_if (nat_le MOST_CLIENTS (length s.clients)) BadClient)
unfolding observed world_of
fault_is s n = refl

pub no_node : (s : StateValue) (n : ℕ) (r : Refusal) → phase_of (standing_of (standings s) n) ≡ Err r → open_fault (observed s) n ≡ Some r
no_node s n r same = fault_is s n ∙ rw (none_refused NodeDown (standing_of (standings s) n) r same) refl

pub node_away : (s : StateValue) (n : ℕ) (p : Phase) → phase_of (standing_of (standings s) n) ≡ Ok p → p ≢ Full → open_fault (observed s) n ≡ Some NodeDown
node_away s n p same other = fault_is s n ∙ rw (away_refused NodeDown (standing_of (standings s) n) p same other) refl

pub all_opened : (s : StateValue) (n : ℕ) → phase_of (standing_of (standings s) n) ≡ Ok Full → MOST_CLIENTS ≤ length s.clients → open_fault (observed s) n
    ≡ Some BadClient
all_opened s n same many = fault_is s n ∙ rw (full_served NodeDown (standing_of (standings s) n) same, le-leb MOST_CLIENTS (length s.clients) many) refl

few_test : (k : ℕ) → k < MOST_CLIENTS → nat_le MOST_CLIENTS k ≡ false
few_test k few =
    elim (cases_Bool (nat_le MOST_CLIENTS k)) [
      | inl many ↦ (let high : MOST_CLIENTS ≤ k = leb-true MOST_CLIENTS k many in absurd (omega (arith, few, high)))
      | inr other ↦ other
    ]

pub may_open : (s : StateValue) (n : ℕ) → phase_of (standing_of (standings s) n) ≡ Ok Full → length s.clients < MOST_CLIENTS → open_fault (observed s) n ≡ None
may_open s n same few = fault_is s n ∙ rw (full_served NodeDown (standing_of (standings s) n) same, few_test (length s.clients) few) refl

-- what holds where there is none

some_none : (r : Refusal) (o : Option Refusal) → or_else (Some r) o ≡ None → ⊥
some_none r o same = cc

full_then : (o : Option Standing) (later : Option Refusal) → or_else (unless_full NodeDown o) later ≡ None → stands_full o ≡ true
full_then None later fine = cc
full_then (Some full) later fine = refl
full_then (Some (down since)) later fine = cc
full_then (Some (returning since donor stale)) later fine = cc

few_then : (o : Option Refusal) (b : Bool) → or_else o (fault_if b BadClient) ≡ None → b ≡ false
few_then None true fine = cc
few_then None false fine = refl
few_then (Some r) b fine = absurd (some_none r (fault_if b BadClient) fine)

pub fine_full : (s : StateValue) (n : ℕ) → open_fault (observed s) n ≡ None → is_full_in (standings s) n ≡ true
unfolding is_full_in
fine_full s n fine = full_then (standing_of (standings s) n) (fault_if (nat_le MOST_CLIENTS (length s.clients)) BadClient) (sym (fault_is s n) ∙ fine)

pub fine_few : (s : StateValue) (n : ℕ) → open_fault (observed s) n ≡ None → length s.clients < MOST_CLIENTS
fine_few s n fine = leb-false MOST_CLIENTS (length s.clients)
    (few_then (unless_full NodeDown (standing_of (standings s) n)) (nat_le MOST_CLIENTS (length s.clients)) (sym (fault_is s n) ∙ fine))
