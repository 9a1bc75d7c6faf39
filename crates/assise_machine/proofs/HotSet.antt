-- How many inodes may be hot at a node is another number, or stays: the invariant between events stays.
use Rattle.assise_machine.proofs.Common.{⊤, ◌≡◌, ℕ, List, None, Result, Ok, Err, OnErr, OnOk, refl, ap, sym, subst, ∥∥₁_map}
use Rattle.assise_machine.proofs.Common.{RegionValue, hot_set, node_fault, MachineInvariant, SettingHot, is_set, hot_holds, after_hot, with_hot_in, observed}
use Rattle.assise_machine.proofs.Common.{IsNumber, CutsInvariant, ShapeInvariant, StateValue, full_number, arith}
use Rattle.std.specs.declared.alloc.AllocError.{AllocError}
use Rattle.assise_machine_state.proofs.Shared.HotSeen.{machine_set, notes_kept, shape_kept}
use Rattle.assise_machine.proofs.Frames.{fine_node}

-- what is to be shown of the state then
pub record Keeps (t : StateValue) : Type 0 where
  pub holds : ∥ MachineInvariant (observed t) ∥₁
  pub shape : ShapeInvariant t
  pub noted : CutsInvariant t

module _ (s : StateValue) (n capacity : ℕ) (shape : ShapeInvariant s) (fine : node_fault (observed s) n ≡ None) where
  pub node_there : IsNumber s.nodes n
  node_there = full_number s n shape (fine_node s n fine)

  pub set_now : (rs : List RegionValue) → rs ≡ with_hot_in s.nodes n capacity → SettingHot (observed s) n capacity hot_set (observed (record s { nodes = rs }))
  set_now rs set =
      subst (λ x. SettingHot (observed s) n capacity hot_set (observed (record s { nodes = x }))) (sym set) (is_set fine refl (machine_set s n capacity))

  pub hot_keeps : ∥ MachineInvariant (observed s) ∥₁ → CutsInvariant s → (r : Result ⊤ AllocError) (rs : List RegionValue) →
      OnOk r (rs ≡ with_hot_in s.nodes n capacity) → OnErr r (rs ≡ s.nodes) → Keeps (record s { nodes = rs })
  hot_keeps holds noted (Ok u) rs set kept =
      subst (λ x. Keeps (record s { nodes = x })) (sym set) (record {
        holds = ∥∥₁_map holds (λ h. hot_holds (observed s) (observed (after_hot s n capacity)) n capacity hot_set h (set_now _ refl));
        shape = shape_kept s n capacity shape;
        noted = notes_kept s n capacity noted;
      })
  hot_keeps holds noted (Err e) rs set kept = grind arith
