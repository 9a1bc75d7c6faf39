-- A node is full exactly where nothing is in the way of its events.
use Rattle.assise_machine.proofs.Common.{◌≡◌, ℕ, Option, None, Result, Ok, sym, ◌∙◌, arith, Refusal, WrongPhase, Phase, Standing, phase_of, standing_of}
use Rattle.assise_machine.proofs.Common.{node_fault, unless_full, observed, StateValue}
use Rattle.assise_manager.specs.declared.phase.Phase.TheVariants.{Full}

full_fine : (o : Option Standing) → phase_of o ≡ Ok Full → unless_full WrongPhase o ≡ None
full_fine o is = grind arith

fine_full : (o : Option Standing) → unless_full WrongPhase o ≡ None → phase_of o ≡ Ok Full
fine_full o is = grind arith

pub full_has_no_fault : (s : StateValue) (n : ℕ) (r : Result Phase Refusal) → r ≡ phase_of (standing_of s.members.nodes n) → r ≡ Ok Full →
    node_fault (observed s) n ≡ None
unfolding observed
full_has_no_fault s n r is there = full_fine (standing_of s.members.nodes n) (sym is ∙ there)

pub no_fault_is_full : (s : StateValue) (n : ℕ) (r : Result Phase Refusal) → r ≡ phase_of (standing_of s.members.nodes n) → node_fault (observed s) n ≡ None →
    r ≡ Ok Full
unfolding observed
no_fault_is_full s n r is fine = is ∙ fine_full (standing_of s.members.nodes n) fine
