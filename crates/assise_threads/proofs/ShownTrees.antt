-- The tree that a node's region alone spells is that of the replicated calls.
use Rattle.assise_threads.proofs.Common.{◌≡◌, ℕ, List, [], ◌∷◌, Option, None, Some, map, refl, sym, ap, ◌∙◌, subst, filter, ∥∥₁_map, BadNode, OutOfMemory}
use Rattle.assise_threads.proofs.Common.{WrongPhase, Machine, MachineInvariant, state_of, Response, Refused, Shown, Shows, is_shown, lacks_memory}
use Rattle.assise_seq_tree.specs.Runs.{tree_after_calls}
use Rattle.assise_seq_tree.specs.Tree.{Tree, opening}
use Rattle.assise_history.specs.Kept.{tree_after}
use Rattle.assise_inode_table.specs.Spelled.{Spells}
use Rattle.assise_inode_table.specs.Traces.{NumberedCall, below, ops}
use Rattle.assise_inode_table.proofs.Shared.SpellingUnique.{spelled_is_one}
use Rattle.assise_manager.specs.Standings.{Standing, full, down, returning, standing_of}
use Rattle.assise_model_world.specs.World.{alone_at, first_unreplicated}
use Rattle.assise_model_history.specs.Numbered.{kept_numbered, plain_call}
use Rattle.assise_model_history.specs.Traces.{numbered_replicated}
use Rattle.assise_model_events.specs.Faults.{node_fault, unless_full}
use Rattle.assise_model_events.proofs.Shared.Whatever.{safe}
use Rattle.assise_machine.specs.Headline.{kept_below}
use Rattle.assise_machine.proofs.Shared.Replicated.{kept_below_is}
use Rattle.assise_console.specs.Steps.{is_refused}
use Rattle.assise_threads.specs.Trees.{IsReplicatedTree}

is_full : (s : Option Standing) → unless_full WrongPhase s ≡ None → s ≡ Some full
is_full None e = absurd (let x : Some BadNode ≡ None = e in cc)
is_full (Some full) e = refl
is_full (Some (down since)) e = absurd (let x : Some WrongPhase ≡ None = e in cc)
is_full (Some (returning since donor stale)) e = absurd (let x : Some WrongPhase ≡ None = e in cc)

plain_ops : (xs : List NumberedCall) → map (λ x. x.op) (map plain_call xs) ≡ ops xs
plain_ops [] = refl
plain_ops (x ∷ xs) = ap (λ ys. x.op ∷ ys) (plain_ops xs)

module _ (m : Machine) (h : MachineInvariant m) where
  same_tree : tree_after opening (kept_below (first_unreplicated m.world) m.history) ≡ tree_after_calls opening (ops (numbered_replicated (state_of m)))
  same_tree =
      ap (tree_after opening) (kept_below_is (first_unreplicated m.world) m.history)
      ∙ ap (tree_after_calls opening) (plain_ops (filter (below (first_unreplicated m.world)) (kept_numbered m.history)))

  replicated : (n : ℕ) (t : Tree) → node_fault m n ≡ None → Spells (alone_at m.world n) t → IsReplicatedTree m.history t
  replicated n t fine spells =
      let all = (safe m h).rebuilt n (h.members.nodes_full n (is_full (standing_of m.members.nodes n) fine)) in
      record {
        bound = first_unreplicated m.world;
        synced = h.recorded.synced;
        tree = spelled_is_one (alone_at m.world n) 0 t _ spells.tree all.tree ∙ sym same_tree;
      }

pub shown_is_replicated : (m : Machine) (n : ℕ) (a : Response) → ∥ MachineInvariant m ∥₁ → Shows n a m → (t : Tree) → a ≡ Shown t →
    ∥ IsReplicatedTree m.history t ∥₁
shown_is_replicated m n a holds (is_shown tree fine is spells) t same =
    let one : tree ≡ t = (let x : Shown tree ≡ Shown t = sym is ∙ same in cc) in
    ∥∥₁_map holds (λ h. replicated m h n t fine (subst (Spells (alone_at m.world n)) one spells))
shown_is_replicated m n a holds (lacks_memory fine is) t same = absurd (let x : Refused OutOfMemory ≡ Shown t = sym is ∙ same in cc)
shown_is_replicated m n a holds (is_refused r fault is) t same = absurd (let x : Refused r ≡ Shown t = sym is ∙ same in cc)
