-- Numbers that name no node and no client: what is asked of them is refused.
use Rattle.assise_console.proofs.Common.{◌≡◌, ◌≤◌, ◌<◌, ℕ, zero, suc, false, List, [], ◌∷◌, length, Some, None, nat_le, refl, ap, arith, inl, inr, cases_Bool}
use Rattle.assise_console.proofs.Common.{leb-true, Op, BadClient, BadNode, NodeDown, WrongPhase, World, Durability, MOST_CLIENTS, durability_of, refused}
use Rattle.assise_console.proofs.Common.{client_fault, fault_if, is_client, node_fault, open_fault, or_else, unless_full, Trying, Machine, Digesting}
use Rattle.assise_console.proofs.Common.{SettingHot, node_refused}
use Rattle.std.proofs.Common.{slice_get}
use Rattle.std.proofs.Math.Bool.{and-false}
use Rattle.assise_names.specs.declared.call.Op.TheVariants.{Create, Mkdir, Read, Write, Truncate, Rename, Unlink, Rmdir, List as ListCall, Stat, Fsync, Dsync}
use Rattle.assise_model_events.proofs.Shared.SyncKeeps.{dsync_refused, fsync_refused}
use Rattle.assise_model_events.specs.ClientEvents.{Crashing, Opening, is_refused}
use Rattle.assise_model_events.specs.MemberEvents.{Failing, Joining, Raising, Refilling, Returning, is_refused as member_refused}
use Rattle.assise_manager.specs.Changes.{failure_fault_of, filling_fault_of, join_fault_of, raise_fault_of, return_fault_of}
use Rattle.assise_manager.specs.NodeLevels.{level_of}
use Rattle.assise_manager.specs.Standings.{Standing, standing_of}

-- ---- nodes

no_place : {X : Type 0} (xs : List X) (n : ℕ) → length xs ≤ n → slice_get xs n ≡ None
no_place [] zero few = refl
no_place [] (suc n) few = refl
no_place (x ∷ xs) zero few = absurd (omega (arith, few))
no_place (x ∷ xs) (suc n) few = no_place xs n (omega (arith, few))

no_standing : (nodes : List Standing) (n : ℕ) → length nodes < n → standing_of nodes n ≡ None
no_standing nodes zero far = absurd (omega (arith, far))
no_standing nodes (suc n) far = no_place nodes n (omega (arith, far))

pub no_node : (m : Machine) (n : ℕ) → length m.members.nodes < n → node_fault m n ≡ Some BadNode
no_node m n far = ap (unless_full WrongPhase) (no_standing m.members.nodes n far)

no_open : (m : Machine) (n : ℕ) → length m.members.nodes < n → open_fault m n ≡ Some BadNode
no_open m n far = ap (λ s. or_else (unless_full NodeDown s) (fault_if (nat_le MOST_CLIENTS m.world.clients) BadClient)) (no_standing m.members.nodes n far)

pub opens_nowhere : (m : Machine) (n : ℕ) (u : Durability) → length m.members.nodes < n → Opening m n u (refused BadNode) m
opens_nowhere m n u far = is_refused BadNode (no_open m n far) refl refl

pub sets_nowhere : (m : Machine) (n capacity : ℕ) → length m.members.nodes < n → SettingHot m n capacity (refused BadNode) m
sets_nowhere m n capacity far = node_refused BadNode (no_node m n far) refl refl

pub digests_nowhere : (m : Machine) (n : ℕ) → length m.members.nodes < n → Digesting m n (refused BadNode) m
digests_nowhere m n far = node_refused BadNode (no_node m n far) refl refl

pub fails_nowhere : (m : Machine) (n : ℕ) → length m.members.nodes < n → Failing m n (refused BadNode) m
fails_nowhere m n far = member_refused BadNode (ap (failure_fault_of m.members) (no_standing m.members.nodes n far)) refl refl

pub comes_nowhere : (m : Machine) (n : ℕ) → length m.members.nodes < n → Returning m n (refused BadNode) m
comes_nowhere m n far = member_refused BadNode (ap return_fault_of (no_standing m.members.nodes n far)) refl refl

pub fills_nowhere : (m : Machine) (n : ℕ) → length m.members.nodes < n → Refilling m n (refused BadNode) m
fills_nowhere m n far = member_refused BadNode (ap filling_fault_of (no_standing m.members.nodes n far)) refl refl

pub raises_nowhere : (m : Machine) (n : ℕ) → length m.members.nodes < n → Raising m n (refused BadNode) m
raises_nowhere m n far = member_refused BadNode (ap (λ o. raise_fault_of o (level_of m.members.levels n)) (no_standing m.members.nodes n far)) refl refl

pub joins_nowhere : (m : Machine) (n : ℕ) → length m.members.nodes < n → Joining m n (refused BadNode) m
joins_nowhere m n far = member_refused BadNode (ap join_fault_of (no_standing m.members.nodes n far)) refl refl

-- ---- clients

no_client : (w : World) (c : ℕ) → w.clients < c → is_client w c ≡ false
no_client w c far = elim (cases_Bool (nat_le c w.clients)) [
  | inl is ↦ absurd (let few = leb-true c w.clients is in omega (arith, few, far))
  | inr other ↦ rw other (and-false (nat_le 1 c))
]

client_missing : (m : Machine) (c : ℕ) → m.world.clients < c → client_fault m c ≡ Some BadClient
client_missing m c far = rw (no_client m.world c far) refl

pub crashes_nobody : (m : Machine) (c : ℕ) → m.world.clients < c → Crashing m c (refused BadClient) m
crashes_nobody m c far = is_refused BadClient (client_missing m c far) refl refl

pub tries_nobody : (m : Machine) (c : ℕ) (op : Op) → m.world.clients < c → Trying m c op (refused BadClient) m
tries_nobody m c (Create p) far = is_refused BadClient (rw (client_missing m c far) refl) refl refl
tries_nobody m c (Mkdir p) far = is_refused BadClient (rw (client_missing m c far) refl) refl refl
tries_nobody m c (Read p offset n) far = is_refused BadClient (rw (client_missing m c far) refl) refl refl
tries_nobody m c (Write p offset bytes) far = is_refused BadClient (rw (client_missing m c far) refl) refl refl
tries_nobody m c (Truncate p size) far = is_refused BadClient (rw (client_missing m c far) refl) refl refl
tries_nobody m c (Rename p q) far = is_refused BadClient (rw (client_missing m c far) refl) refl refl
tries_nobody m c (Unlink p) far = is_refused BadClient (rw (client_missing m c far) refl) refl refl
tries_nobody m c (Rmdir p) far = is_refused BadClient (rw (client_missing m c far) refl) refl refl
tries_nobody m c (ListCall p) far = is_refused BadClient (rw (client_missing m c far) refl) refl refl
tries_nobody m c (Stat p) far = is_refused BadClient (rw (client_missing m c far) refl) refl refl
tries_nobody m c Fsync far = fsync_refused m c (durability_of c m.history) BadClient (refused BadClient) (client_missing m c far) refl
tries_nobody m c Dsync far = dsync_refused m c (durability_of c m.history) BadClient (refused BadClient) (client_missing m c far) refl
