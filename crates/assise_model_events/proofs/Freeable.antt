-- Ready leases can go, and nodes that aren't full and whose clients hold nothing can give theirs up, where clients hold only so
-- many inodes.
use Rattle.assise_model_events.proofs.Common.{◌≡◌, ◌⊎◌, ℕ, zero, suc, ◌≤◌, ◌<◌, nat_le, inl, inr, true, false, List, [], ◌∷◌, length, Some, None, refl, sym}
use Rattle.assise_model_events.proofs.Common.{arith, append-nil, and_parts, both_ways, cases_Bool, cases_eq, cases_lt, none-some, contains, Lease, lease_of}
use Rattle.assise_model_events.proofs.Common.{without_holder, is_busy, is_revoked, IsIdle, TwoLevels, without_other, without_own, World, Full, digested_by_all}
use Rattle.assise_model_events.proofs.Common.{Leases, client_lease, revoked_holder, holder_home, Answer, released, MachineInvariant, Machine, Freed, Frees}
use Rattle.assise_model_events.proofs.Common.{Releasing, is_ready, leases_after, leases_freed, world_after}
use Rattle.assise_model_events.specs.NodeEvents.Releasing.{is_released}
use Rattle.assise_model_events.proofs.Ready.{LetOut, in_pairs, let_out, pairs}

-- ---- whether a node's clients hold something

-- up to an inode
idle_to : (t : TwoLevels) (n top : ℕ) → ((i : ℕ) → i ≤ top → is_busy t.home (t.clients i) n ≡ false) ⊎ ((i : ℕ) × (is_busy t.home (t.clients i) n ≡ true))
idle_to t n zero = grind (arith, cases_Bool (is_busy t.home (t.clients 0) n))
idle_to t n (suc top) = grind (arith, idle_to t n top, cases_Bool (is_busy t.home (t.clients (suc top)) n), cases_eq)

-- of all inodes, where none is held past one
idle_or_not : (t : TwoLevels) (n top : ℕ) → ((i : ℕ) → top < i → t.clients i ≡ []) → IsIdle t n ⊎ (IsIdle t n → ⊥)
idle_or_not t n top few = grind (arith, idle_to t n top, both_ways, is_busy, cases_lt)

-- ---- nodes give up their leases

pub record FreedAll (w : World) (l : Leases) (most : ℕ) : Type 0 where
  pub freed : List Freed
  pub frees : Frees w l freed
  pub all : (n i : ℕ) → 1 ≤ n → n ≤ most → (Full w n → ⊥) → IsIdle l.levels n → lease_of ((leases_freed l freed).levels.nodes i) n ≡ None
  pub none : (n i : ℕ) → lease_of (l.levels.nodes i) n ≡ None → lease_of ((leases_freed l freed).levels.nodes i) n ≡ None

abbrev without_node : Leases → ℕ → Leases
without_node l n = record {
  levels = record { home = l.levels.home; clients = l.levels.clients; nodes = λ i. without_holder n (l.levels.nodes i) };
  cut =
      l.cut;
}

still_none : (ls : List Lease) (n k : ℕ) → lease_of ls k ≡ None → lease_of (without_holder n ls) k ≡ None
still_none ls n k is = grind (arith, cases_eq, without_own, without_other)

frees_first : (w : World) (l : Leases) (n : ℕ) → (Full w (suc n) → ⊥) → IsIdle l.levels (suc n) → FreedAll w (without_node l (suc n)) n → FreedAll w l (suc n)
frees_first w l n away idle r = record {
  freed = record { node = suc n; leases = without_node l (suc n) } ∷ r.freed;
  frees = (record { away = away; idle = idle; freed = record { home = λ d. refl; clients = λ i. refl; nodes = λ i. refl }; cuts = λ d i. refl }, r.frees);
  all = grind (arith, cases_eq, lease_of, without_holder, without_own);
  none = λ k i is. r.none k i (still_none (l.levels.nodes i) (suc n) k is);
}

keeps_first : (w : World) (l : Leases) (n : ℕ) → ((Full w (suc n) → ⊥) → IsIdle l.levels (suc n) → ⊥) → FreedAll w l n → FreedAll w l (suc n)
keeps_first w l n never r = grind (arith, cases_eq)

free_all : (w : World) (l : Leases) (top most : ℕ) → ((i : ℕ) → top < i → l.levels.clients i ≡ []) → FreedAll w l most
free_all w l top zero few = record { freed = []; frees = tt; all = λ n i one low out at_rest. absurd (omega (arith, one, low)); none = λ n i is. is }
free_all w l top (suc n) few =
    elim (cases_Bool (contains w.full (suc n))) [
      | inl here ↦ keeps_first w l n (λ out at_rest. out here) (free_all w l top n few)
      | inr away ↦ elim (idle_or_not l.levels (suc n) top few) [
        | inl idle ↦ frees_first w l n (λ here. both_ways (contains w.full (suc n)) away here) idle (free_all w (without_node l (suc n)) top n few)
        | inr busy ↦ keeps_first w l n (λ out at_rest. busy at_rest) (free_all w l top n few)
      ]
    ]

-- ---- what is ready goes

-- who holds a ready lease is a client
ready_client : (m : Machine) (c i : ℕ) → MachineInvariant m → is_ready m.world m.leases c i ≡ true → c ≤ m.world.clients
ready_client m c i h ready =
    let revoked : is_revoked (client_lease m.leases c i) ≡ true =
    grind (arith, and_parts, is_revoked, client_lease, nat_le, digested_by_all) in
    let home : m.leases.levels.home c ≡ Some (m.world.home c) = holder_home m.world m.leases c i h.leases (revoked_holder m.leases c i revoked) in
    elim (cases_lt m.world.clients c) [
      | inl above ↦ grind (arith, none-some)
      | inr within ↦ omega (arith, within)
    ]

none_left : (m : Machine) (top c i : ℕ) → MachineInvariant m → ((i : ℕ) → top < i → m.leases.levels.clients i ≡ []) →
    (r : LetOut m.world m.leases (pairs m.world.clients top)) →
    is_ready m.world m.leases c i ≡ true → client_lease (leases_after m.leases r.gone) c i ≡ None
none_left m top c i h few r ready = grind (arith, cases_lt, in_pairs, ready_client)

pub released_can : (m : Machine) (top : ℕ) → MachineInvariant m → ((i : ℕ) → top < i → m.leases.levels.clients i ≡ []) →
    (m' : Machine) × ((a : Answer) × Releasing m a m')
released_can m top h few =
    let r : LetOut m.world m.leases (pairs m.world.clients top) = let_out m.world m.leases (pairs m.world.clients top) in
    let k : Leases = leases_after m.leases r.gone in
    let f : FreedAll m.world k (length m.members.nodes) = free_all m.world k top (length m.members.nodes) (λ i above. r.empty i (few i above)) in (
      record m { world = world_after m.world r.gone; leases = leases_freed k f.freed },
      (
        released (length r.gone),
        is_released r.gone f.freed refl (record {
          releases = r.goes;
          none_left = λ c i ready. none_left m top c i h few r ready;
          frees = f.frees;
          all_freed = λ n node away idle i. f.all n i node.0 node.1 away idle;
          world = refl;
          leases = refl;
          adds = record { history = sym (append-nil m.history); limit = refl; hot = refl };
          members = refl;
        }),
      ),
    )
