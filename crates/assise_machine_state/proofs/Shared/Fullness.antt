-- Which nodes are full, and which logs they have.
use Rattle.assise_machine_state.proofs.Common.{◌≡◌, ℕ, ◌-◌, ◌≤◌, min, true, false, ◌==◌, List, [], length, Some, inl, inr, refl, ap, sym, subst, ◌∙◌, arith}
use Rattle.assise_machine_state.proofs.Common.{eq-eqb, true≢false, cases_Bool, eqb-true, not-true, length-take, contains, RegionValue, no_log, Standing, full}
use Rattle.assise_machine_state.proofs.Common.{standing_of, WorldInvariant, Full, IsClient, World, end_of_log, received_by_all-below, down_from, client_in}
use Rattle.assise_machine_state.proofs.Common.{no_client, HasLog, log_in, region_in, full_in, is_full_in, observed, world_of, IsNumber, item_at, ShapeInvariant}
use Rattle.assise_machine_state.proofs.Common.{StateValue, standings}
use Rattle.std.proofs.lemmas.Map.Views.{any-filter_same}
use Rattle.assise_model_history.proofs.Shared.TracesKeep.{of_node}
use Rattle.assise_machine_state.proofs.Shared.ItemSeen.{seen_nothing, seen_number}
use Rattle.assise_machine_state.proofs.Shared.Standings.{numbers, stands_so}

-- ---- the list of full nodes

pub full_is : (nodes : List Standing) (n : ℕ) → contains (full_in nodes) n ≡ is_full_in nodes n
unfolding full_in
full_is nodes n =
    any-filter_same (λ k. k == n) (is_full_in nodes) (is_full_in nodes n) (λ k is. ap (is_full_in nodes) (eqb-true k n is)) (down_from (length nodes))
    ∙ elim (cases_Bool (is_full_in nodes n)) [
      | inl f ↦ (let g : (1 ≤ n) × (n ≤ length nodes) = numbers nodes n full (stands_so nodes n f) in rw f (of_node (length nodes) n g.0 g.1))
      | inr other ↦ rw other refl
    ]

pub full_seen : (s : StateValue) (n : ℕ) → Full (world_of s) n → is_full_in (standings s) n ≡ true
unfolding world_of
full_seen s n f = sym (full_is (standings s) n) ∙ f

pub seen_full : (s : StateValue) (n : ℕ) → is_full_in (standings s) n ≡ true → Full (world_of s) n
unfolding world_of
seen_full s n f = full_is (standings s) n ∙ f

pub node_number : (s : StateValue) (n : ℕ) (x : Standing) → ShapeInvariant s → standing_of (standings s) n ≡ Some x → IsNumber s.nodes n
node_number s n x shape stands =
    (let g : (1 ≤ n) × (n ≤ length (standings s)) = numbers (standings s) n x stands in record { some = g.0; there = subst (λ k. n ≤ k) (sym shape.nodes) g.1 })

pub full_number : (s : StateValue) (n : ℕ) → ShapeInvariant s → is_full_in (standings s) n ≡ true → IsNumber s.nodes n
full_number s n shape f = node_number s n full shape (stands_so (standings s) n f)

-- ---- logs

pub has_log : (s : StateValue) (n c : ℕ) → ShapeInvariant s → is_full_in (standings s) n ≡ true → IsNumber s.clients c → HasLog s.nodes n c
has_log s n c shape f client = grind (arith, full_number)

-- a node that isn't full has no log
pub no_log_in : (rs : List RegionValue) (n c : ℕ) → (region_in rs n).logs ≡ [] → log_in rs n c ≡ no_log
unfolding log_in
no_log_in rs n c none = ap (λ ls. item_at no_log ls c) none ∙ seen_nothing no_log c

pub no_log_there : (s : StateValue) (n c : ℕ) → ShapeInvariant s → is_full_in (standings s) n ≡ false → log_in s.nodes n c ≡ no_log
no_log_there s n c shape away = no_log_in s.nodes n c (shape.no_logs n away)

-- ---- clients that live

pub lives_unfailed : (s : StateValue) (c : ℕ) → (world_of s).lives c ≡ true → (client_in s.clients c).failed ≡ false
unfolding world_of
lives_unfailed s c lives = not-true (client_in s.clients c).failed lives

pub lives_number : (s : StateValue) (c : ℕ) → (world_of s).lives c ≡ true → IsNumber s.clients c
unfolding client_in
lives_number s c lives = seen_number no_client s.clients c (λ none. true≢false (sym (ap (λ x. x.failed) none) ∙ lives_unfailed s c lives))

-- its home is full
pub home_full : (s : StateValue) (c : ℕ) → ShapeInvariant s → (client_in s.clients c).failed ≡ false →
    is_full_in (standings s) (client_in s.clients c).home ≡ true
home_full s c shape unfailed =
    let home : ℕ = (client_in s.clients c).home in
    let here : (log_in s.nodes home c).at_home ≡ true = shape.at_home home c ∙ rw (unfailed, eq-eqb home home refl) refl in
    elim (cases_Bool (is_full_in (standings s) home)) [
      | inl f ↦ f
      | inr away ↦ (let none : log_in s.nodes home c ≡ no_log = no_log_there s home c shape away in absurd (cc (ap (λ l. l.at_home) none, here)))
    ]

-- ---- a full node's log of a client is a prefix of the client's own, and begins where that does

pub prefix_length : (w : World) (n c : ℕ) → WorldInvariant w → Full w n → length (w.log n c) ≡ min (w.received n c - w.first c) (length (w.records c))
prefix_length w n c sound f = ap length (sound.prefixes n c f) ∙ length-take (w.received n c - w.first c) (w.records c)

pub same_first : (s : StateValue) (n c : ℕ) → WorldInvariant (world_of s) → Full (world_of s) n → (log_in s.nodes n c).log.first ≡ (world_of s).first c
unfolding world_of end_of_log
same_first s n c sound f =
    let order = sound.coherent.order n c f in
    let all : (world_of s).digested n c ≤ (world_of s).received n c = omega (arith, order.replicated, received_by_all-below (world_of s) n c f) in
    let prefix : length ((world_of s).log n c) ≡ min ((world_of s).received n c - (world_of s).first c) (length ((world_of s).records c)) =
    prefix_length (world_of s) n c sound f in
    omega (arith, order.begun, order.known, all, prefix)

-- ---- what a client and a node are to the laws

pub client_number : (s : StateValue) (c : ℕ) → IsClient (observed s).world c → IsNumber s.clients c
unfolding observed world_of
client_number s c is = record { some = is.0; there = is.1 }

pub number_client : (s : StateValue) (c : ℕ) → IsNumber s.clients c → IsClient (observed s).world c
unfolding observed world_of
number_client s c is = (is.some, is.there)
