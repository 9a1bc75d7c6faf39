-- What a full node has alone.
use Rattle.assise_machine.proofs.Common.{◌≡◌, ℕ, List, None, Result, Ok, Err, IfOk, refl, sym, subst, ∥∥₁_elim, ∥∥₁_map, Coded-set, coded_option, Refusal}
use Rattle.assise_machine.proofs.Common.{tree_after_calls, opening, coded_content, Spells, ops, alone, Full, alone_observed, numbered_replicated, node_fault}
use Rattle.assise_machine.proofs.Common.{MachineInvariant, state_of, safe, observed, world_of, region_in, ShapeInvariant, StateValue, seen_full, alone_same}
use Rattle.assise_machine.proofs.Common.{AreAcked}
use Rattle.assise_machine.proofs.Frames.{fine_node}
use Rattle.assise_machine.proofs.SpellingIsProposition.{spells_known}

pub fine_full : (s : StateValue) (n : ℕ) → node_fault (observed s) n ≡ None → Full (observed s).world n
unfolding observed
fine_full s n fine = seen_full s n (fine_node s n fine)

-- the region alone gives what is observed
module _ (s : StateValue) (n : ℕ) (shape : ShapeInvariant s) (holds : ∥ MachineInvariant (observed s) ∥₁) (fine : node_fault (observed s) n ≡ None)
    (acked : List ℕ) (all : AreAcked (observed s).world acked) where
  pub same_alone : (i : ℕ) → alone (region_in s.nodes n) acked i ≡ alone_observed (observed s).world n i
  unfolding observed world_of
  same_alone i =
      ∥∥₁_elim holds (Coded-set (coded_option coded_content) (alone (region_in s.nodes n) acked i) (alone_observed (world_of s) n i))
      (λ h. alone_same s n acked shape h.sound (fine_full s n fine) all.count all.each i)

  pub gives_alone : Spells (alone (region_in s.nodes n) acked) (tree_after_calls opening (ops (numbered_replicated (state_of (observed s)))))
  gives_alone =
      subst (λ v. Spells v (tree_after_calls opening (ops (numbered_replicated (state_of (observed s)))))) (λ i j. sym (same_alone j) i)
      (spells_known (alone_observed (observed s).world n) (tree_after_calls opening (ops (numbered_replicated (state_of (observed s)))))
      (∥∥₁_map holds (λ h. (safe (observed s) h).rebuilt n (fine_full s n fine))))

pub if_ok_from : {X : Type 0} (r : Result X Refusal) (P : X → Type 0) → ((x : X) → r ≡ Ok x → P x) → IfOk r P
if_ok_from (Ok x) P f = f x refl
if_ok_from (Err e) P f = tt
