-- The invariant between events, in the words of the headline.
use Rattle.assise_machine.proofs.Common.{◌≡◌, ℕ, zero, suc, ◌<◌, ◌≤◌, nat_lt, true, false, None, List, [], ◌∷◌, filter, get_or, length, map, slice_index_or}
use Rattle.assise_machine.proofs.Common.{inl, inr, refl, ap, sym, subst, ◌∙◌, arith, le_prop, ∥∥₁_elim, ∥∥₁_map, props, cases_lt, get_or_append_left}
use Rattle.assise_machine.proofs.Common.{get_or_push, length_push, Coded, Coded-set, Unit-prop, codes, ×_prop, Op, WrongPhase, Reply, answer, AreAnswered}
use Rattle.assise_machine.proofs.Common.{tree_after_calls, Tree, opening, EntryValue, IsRun, exchange, tree_after, IsDown, IsPastSyncs, calls_made}
use Rattle.assise_machine.proofs.Common.{clients_opened, contains, touched, Spells, Each, NumberedCall, below, exchanges, ops, alone, fulls, lowest_full}
use Rattle.assise_machine.proofs.Common.{full_nodes, Full, alone_observed, first_unreplicated, received_by_all, steps, IsLasting, numbered_replicated}
use Rattle.assise_machine.proofs.Common.{MachineInvariant, begun_as, state_of, node_fault, unless_full, handed_over_replicated, safe, region_in, observed}
use Rattle.assise_machine.proofs.Common.{world_of, IsNumber, ShapeInvariant, StateValue, leases_of, standings, machine_of, value_of, full_number, full_seen}
use Rattle.assise_machine.proofs.Common.{seen_full, alone_same, lowest_listed, stands_so, ClusterOf, IsUp, acked_to, call_from, first_acked, history_of}
use Rattle.assise_machine.proofs.Common.{kept_below, least_end, regions_of, replicated_calls, replicated_to}
use Rattle.assise_history.specs.declared.call.Call.{Call}
use Rattle.assise_inode_table.specs.Interaction.{Step}
use Rattle.assise_inode_table.proofs.Shared.PairwiseLists.{each-map}
use Rattle.assise_model_world.proofs.Shared.RegionAlone.{answered_at, first_undigested-below}
use Rattle.assise_model_history.specs.Numbered.{kept_numbered, plain_call}
use Rattle.assise_model_history.proofs.Shared.NumberedCalls.{kept_plain}
use Rattle.assise_machine.specs.HandedOver.{AreReplicated, has_write_lease, kept_steps}
use Rattle.assise_machine.proofs.Alone.{fine_full}
use Rattle.assise_machine.proofs.ReplicatedUpTo.{least_is, replicated_is}
use Rattle.assise_machine.proofs.SpellingIsProposition.{spells_known}

-- ---- runs are known

coded_reply : Coded Reply
coded_reply = hlevel codes

pub coded_answered : Coded (List Call)
coded_answered = hlevel codes

answered_prop : (t : Tree) (xs : List (Op × Reply)) → IsProp (AreAnswered t xs)
answered_prop t [] = Unit-prop
answered_prop t (x ∷ xs) = ×_prop (Coded-set coded_reply x.1 (answer t x.0).0) (answered_prop (answer t x.0).1 xs)

-- ---- calls without the numbers of inodes

plain_below : (b : ℕ → ℕ) (xs : List NumberedCall) → filter (λ x. nat_lt x.number (b x.client)) (map plain_call xs) ≡ map plain_call (filter (below b) xs)
plain_below b [] = refl
plain_below b (x ∷ xs) = grind (arith, plain_below b xs)

pub kept_below_is : (b : ℕ → ℕ) (h : List EntryValue) → kept_below b h ≡ map plain_call (filter (below b) (kept_numbered h))
kept_below_is b h = ap (filter (λ x. nat_lt x.number (b x.client))) (sym (kept_plain h)) ∙ plain_below b (kept_numbered h)

plain_exchanges : (xs : List NumberedCall) → map exchange (map plain_call xs) ≡ exchanges xs
plain_exchanges [] = refl
plain_exchanges (x ∷ xs) = ap (λ ys. (x.op, x.reply) ∷ ys) (plain_exchanges xs)

plain_ops : (xs : List NumberedCall) → map (λ x. x.op) (map plain_call xs) ≡ ops xs
plain_ops [] = refl
plain_ops (x ∷ xs) = ap (λ ys. x.op ∷ ys) (plain_ops xs)

-- ---- one place for each client

pub first_length : {C : Type 0} (cluster : ClusterOf C) (m : ℕ) → length (first_acked cluster m) ≡ m
first_length cluster zero = refl
first_length cluster (suc m) = grind (arith, first_length cluster m, length_push)

pub first_at : {C : Type 0} (cluster : ClusterOf C) (m c : ℕ) → c < m → get_or (first_acked cluster m) c 0 ≡ acked_to cluster (suc c)
first_at cluster zero c low = absurd (omega (arith, low))
first_at cluster (suc m) c low =
    elim (cases_lt c m) [
      | inl below ↦ grind (arith, first_at cluster m c below, get_or_append_left, first_length)
      | inr here ↦
          grind (arith, get_or_push, first_length)
    ]

-- ---- of a state

module _ (s : StateValue) (shape : ShapeInvariant s) (some : 0 < length (full_nodes (standings s))) (holds : ∥ MachineInvariant (observed s) ∥₁) where
  abbrev acked : ℕ → ℕ
  acked c = least_end c s.nodes (calls_made c s.history)

  abbrev bound : ℕ → ℕ
  bound c = call_from c (acked c) s.nodes (calls_made c s.history)

  pub count_known : clients_opened s.history ≡ length s.clients
  unfolding observed world_of
  count_known = ∥∥₁_elim holds (search props) (λ h. sym h.recorded.count)

  pub acked_known : (c : ℕ) → acked c ≡ received_by_all (observed s).world c
  unfolding observed
  acked_known c = ∥∥₁_elim holds (search props) (λ h. least_is s shape some h.sound h.recorded.next c)

  pub bound_known : (c : ℕ) → bound c ≡ first_unreplicated (observed s).world c
  unfolding observed
  bound_known c = ∥∥₁_elim holds (search props) (λ h. replicated_is s shape some h.sound h.recorded.next c)

  same_bound : bound ≡ first_unreplicated (observed s).world
  same_bound = λ i c. bound_known c i

  -- ---- which nodes are up

  pub full_known : (n : ℕ) → 1 ≤ n → n ≤ length s.nodes → (IsDown s.history n → ⊥) → Full (observed s).world n
  unfolding observed
  full_known n least most up = ∥∥₁_elim holds (search props) (grind arith)

  pub up_known : (n : ℕ) → Full (observed s).world n → IsDown s.history n → ⊥
  unfolding observed
  up_known n full down = ∥∥₁_elim holds (λ x y. absurd x) (λ h. h.recorded.up n full down)

  full_there : (n : ℕ) → Full (observed s).world n → IsNumber s.nodes n
  unfolding observed
  full_there n full = full_number s n shape (full_seen s n full)

  pub some_full : Full (observed s).world (lowest_full (standings s))
  unfolding observed
  some_full = seen_full s (lowest_full (standings s)) (lowest_listed (standings s) some)

  pub no_fault : (n : ℕ) → Full (observed s).world n → node_fault (observed s) n ≡ None
  unfolding observed
  no_fault n full = ap (unless_full WrongPhase) (stands_so (standings s) n (full_seen s n full))

  -- ---- its region alone

  -- the tree of the replicated calls is that of the laws
  pub same_tree : tree_after opening (kept_below bound s.history) ≡ tree_after_calls opening (ops (numbered_replicated (state_of (observed s))))
  unfolding observed
  same_tree = grind (arith, same_bound, kept_below_is, plain_ops)

  module _ (places : List ℕ) (count : length places ≡ length s.clients)
      (each : (c : ℕ) → c < length s.clients → slice_index_or places c 0 ≡ acked (suc c)) where
    same_values : (n : ℕ) → MachineInvariant (observed s) → Full (observed s).world n → (i : ℕ) →
        alone (region_in s.nodes n) places i ≡ alone_observed (observed s).world n i
    unfolding observed
    same_values n h full i = alone_same s n places shape h.sound full count (λ c low. each c low ∙ acked_known (suc c)) i

    pub alone_gives : (n : ℕ) → Full (observed s).world n → Spells (alone (region_in s.nodes n) places) (tree_after opening (kept_below bound s.history))
    alone_gives n full =
        spells_known (alone (region_in s.nodes n) places) (tree_after opening (kept_below bound s.history))
        (∥∥₁_map holds (λ h.
        subst (λ v. Spells v (tree_after opening (kept_below bound s.history))) (λ i j. sym (same_values n h full j) i)
        (subst (Spells (alone_observed (observed s).world n)) (sym same_tree) ((safe (observed s) h).rebuilt n full))))

  -- ---- syncs, and what was seen

  pub synced_known : (c : ℕ) → IsPastSyncs s.history (record { client = c; first = bound c })
  unfolding observed
  synced_known c = λ before since x split own sync. ∥∥₁_elim holds le_prop (grind (arith, bound_known c))

  pub run_known : (b : ℕ → ℕ) → ((c : ℕ) → bound c ≤ b c) → IsRun opening (kept_below b s.history)
  unfolding observed
  run_known b past = ∥∥₁_elim holds (answered_prop opening (map exchange (kept_below b s.history)))
      (grind (arith, first_undigested-below, bound_known, answered_at, kept_below_is, plain_exchanges))

-- ---- of a cluster

module _ {C : Type 0} (cluster : ClusterOf C) where
  abbrev value : StateValue
  value = value_of cluster.sound.state

  some_there : 0 < length (full_nodes (standings value))
  some_there = cluster.sound.state.members.lawful.some_full

  pub full_is_up : (n : ℕ) → Full (observed value).world n → IsUp cluster n
  full_is_up n full = grind (arith, full_there, up_known)

  pub up_is_full : (n : ℕ) → IsUp cluster n → Full (observed value).world n
  up_is_full n up = full_known value cluster.sound.invariant.shape some_there cluster.sound.invariant.holds n up.least up.most up.up

  pub one_is_up : (n : ℕ) × IsUp cluster n
  one_is_up = grind (arith, full_is_up (lowest_full (standings value)) (some_full value cluster.sound.invariant.shape some_there cluster.sound.invariant.holds))

  pub fine_is_up : (n : ℕ) → node_fault (observed value) n ≡ None → IsUp cluster n
  fine_is_up n fine = full_is_up n (fine_full value n fine)

  pub up_is_fine : (n : ℕ) → IsUp cluster n → node_fault (observed value) n ≡ None
  up_is_fine n up = no_fault value cluster.sound.invariant.shape some_there cluster.sound.invariant.holds n (up_is_full n up)

  pub acked_seen : (c : ℕ) → acked_to cluster c ≡ received_by_all (observed value).world c
  acked_seen c = acked_known value cluster.sound.invariant.shape some_there cluster.sound.invariant.holds c

  pub replicated_seen : (c : ℕ) → replicated_to cluster c ≡ first_unreplicated (observed value).world c
  replicated_seen c = bound_known value cluster.sound.invariant.shape some_there cluster.sound.invariant.holds c

  pub replicated_tree : tree_after opening (replicated_calls cluster) ≡ tree_after_calls opening (ops (numbered_replicated (state_of (observed value))))
  replicated_tree = same_tree value cluster.sound.invariant.shape some_there cluster.sound.invariant.holds

  -- ---- what was handed over

  abbrev Before : (ℕ → ℕ) → (c i : ℕ) → NumberedCall × Step → Type 0
  Before b c i x = x.0.client ≡ c → contains (touched x.1.effects) i ≡ true → x.0.number < b c

  before_prop : (b : ℕ → ℕ) (c i : ℕ) (xs : List (NumberedCall × Step)) → IsProp (Each (Before b c i) xs)
  before_prop b c i [] = Unit-prop
  before_prop b c i (x ∷ xs) = ×_prop (λ f g. λ k own touches. le_prop (f own touches) (g own touches) k) (before_prop b c i xs)

  pub handed_known : (c i : ℕ) → has_write_lease cluster c i ≡ false → AreReplicated cluster c i
  unfolding observed world_of steps leases_of
  handed_known c i away = ∥∥₁_elim cluster.sound.invariant.holds (before_prop (replicated_to cluster) c i (kept_steps cluster)) (λ h.
      grind (arith, each-map, replicated_seen c, handed_over_replicated (observed value) h c i away))

-- ---- at the start

as_many : (n : ℕ) → length (fulls n) ≡ n
as_many zero = refl
as_many (suc n) = ap suc (as_many n)

pub begun_so : {C : Type 0} (cluster : ClusterOf C) (nodes limit hot : ℕ) → machine_of cluster.sound.state ≡ begun_as nodes limit hot →
    (history_of cluster ≡ []) × (length (regions_of cluster) ≡ nodes)
unfolding observed
begun_so cluster nodes limit hot is = (ap (λ m. m.history) is, cluster.sound.invariant.shape.nodes ∙ ap (λ m. length m.members.nodes) is ∙ as_many nodes)

-- ---- from a cluster to a later one

module _ {C : Type 0} (cluster later : ClusterOf C)
    (lasts : MachineInvariant (observed (value cluster)) → IsLasting (state_of (observed (value cluster))) (state_of (observed (value later))))
  where
    pub nodes_stay : length (regions_of later) ≡ length (regions_of cluster)
    unfolding observed
    nodes_stay = ∥∥₁_elim cluster.sound.invariant.holds (search props)
        (λ h. later.sound.invariant.shape.nodes ∙ (lasts h).nodes ∙ sym cluster.sound.invariant.shape.nodes)

    pub bounds_stay : (c : ℕ) → replicated_to cluster c ≤ replicated_to later c
    bounds_stay c = ∥∥₁_elim cluster.sound.invariant.holds le_prop (λ h.
        (let no_less = (lasts h).none_falls.unreplicated c in omega (arith, no_less, replicated_seen cluster c, replicated_seen later c)))

    pub calls_stay : kept_below (replicated_to cluster) (history_of later) ≡ replicated_calls cluster
    unfolding observed
    calls_stay = ∥∥₁_elim cluster.sound.invariant.holds (Coded-set coded_answered _ _) (λ h.
        let b = first_unreplicated (observed (value cluster)).world in
        let same : replicated_to cluster ≡ b = λ i c. replicated_seen cluster c i in
        ap (λ d. kept_below d (history_of later)) same
        ∙ kept_below_is b (history_of later)
        ∙ ap (map plain_call) (lasts h).stay
        ∙ sym (kept_below_is b (history_of cluster))
        ∙ ap (λ d. kept_below d (history_of cluster)) (sym same))
