-- The node whose log of a client is the client's own, and the least place of all full nodes.
use Rattle.assise_machine_state.proofs.Common.{◌≡◌, ℕ, suc, ◌+◌, ◌<◌, ◌≤◌, ◌==◌, min, take, take-suc, Bool, true, false, List, [], ◌∷◌, ◌++◌, length, get_or}
use Rattle.assise_machine_state.proofs.Common.{refl, ap, subst, ◌∙◌, arith, eq-eqb, cases_Bool, list_any_at, contains, log_end, lowest_full, Standing}
use Rattle.assise_machine_state.proofs.Common.{full_nodes, end_of_log, least_of, least_of-above, least_of-below, least_of-end, ClientValue, client_in, HasLog}
use Rattle.assise_machine_state.proofs.Common.{log_in, full_in, is_full_in, own_node, own_seen, world_of, IsNumber, ShapeInvariant, StateValue, standings}
use Rattle.std.proofs.Common.{take_all}
use Rattle.assise_machine_state.proofs.Shared.Fullness.{full_is, has_log, home_full}
use Rattle.assise_machine_state.proofs.Shared.Standings.{is_listed, listed_is_full, lowest_listed}

-- ---- the own node

pub own_full : (s : StateValue) (c : ℕ) → ShapeInvariant s → IsNumber s.clients c → 0 < length (full_nodes (standings s)) →
    is_full_in (standings s) (own_node (standings s) (client_in s.clients c)) ≡ true
own_full s c shape client some = grind (arith, cases_Bool, lowest_listed, home_full)

pub own_log : (s : StateValue) (c : ℕ) → ShapeInvariant s → IsNumber s.clients c → 0 < length (full_nodes (standings s)) →
    HasLog s.nodes (own_node (standings s) (client_in s.clients c)) c
own_log s c shape client some = has_log s (own_node (standings s) (client_in s.clients c)) c shape (own_full s c shape client some) client

pub listed_log : (s : StateValue) (n c : ℕ) → ShapeInvariant s → IsNumber s.clients c → contains (full_nodes (standings s)) n ≡ true → HasLog s.nodes n c
listed_log s n c shape client listed = has_log s n c shape (listed_is_full (standings s) n listed) client

pub own_of_failed : (nodes : List Standing) (x : ClientValue) → x.failed ≡ true → own_node nodes x ≡ lowest_full nodes
own_of_failed nodes x failed = rw failed refl

pub own_of_unfailed : (nodes : List Standing) (x : ClientValue) → x.failed ≡ false → own_node nodes x ≡ x.home
own_of_unfailed nodes x unfailed = rw unfailed refl

-- the log of a client that lives is known at its home as that of one that lives there
pub home_log : (s : StateValue) (c : ℕ) → ShapeInvariant s → IsNumber s.clients c → (client_in s.clients c).failed ≡ false →
    HasLog s.nodes (client_in s.clients c).home c
home_log s c shape client unfailed = has_log s (client_in s.clients c).home c shape (home_full s c shape unfailed) client

pub home_known : (s : StateValue) (c : ℕ) → ShapeInvariant s → IsNumber s.clients c → (client_in s.clients c).failed ≡ false →
    (log_in s.nodes (client_in s.clients c).home c).at_home ≡ true
home_known s c shape client unfailed = grind (arith, eq-eqb)

-- ---- the least place

-- one number more
pub one_more : (ns : List ℕ) (n : ℕ) (f : ℕ → ℕ) (d : ℕ) → least_of (ns ++ n ∷ []) f d ≡ min (least_of ns f d) (f n)
one_more [] n f d = omega arith
one_more (m ∷ ns) n f d = (let rest : least_of (ns ++ n ∷ []) f d ≡ min (least_of ns f d) (f n) = one_more ns n f d in omega (arith, rest))

no_more : (ms ns : List ℕ) (f : ℕ → ℕ) (d : ℕ) → ((n : ℕ) → contains ms n ≡ true → contains ns n ≡ true) → least_of ns f d ≤ least_of ms f d
no_more ms ns f d all = least_of-above ms f d (least_of ns f d) (least_of-end ns f d) (λ n there. least_of-below ns f d n (all n there))

same_truth : (a b : Bool) → (a ≡ true → b ≡ true) → (b ≡ true → a ≡ true) → a ≡ b
same_truth a b h1 h2 = grind arith

pub listed_is : (nodes : List Standing) (n : ℕ) → contains (full_nodes nodes) n ≡ is_full_in nodes n
listed_is nodes n = same_truth (contains (full_nodes nodes) n) (is_full_in nodes n) (listed_is_full nodes n) (is_listed nodes n)

-- the order in which full nodes are listed doesn't matter
pub either_order : (nodes : List Standing) (f : ℕ → ℕ) (d : ℕ) → least_of (full_nodes nodes) f d ≡ least_of (full_in nodes) f d
either_order nodes f d = grind (arith, no_more, is_listed, full_is, listed_is_full)

pub own_end : (s : StateValue) (c : ℕ) → ShapeInvariant s → IsNumber s.clients c → 0 < length (full_nodes (standings s)) →
    end_of_log (world_of s) c ≡ log_end (log_in s.nodes (own_node (standings s) (client_in s.clients c)) c).log
unfolding world_of end_of_log own_seen
own_end s c shape client some = refl

-- ---- one full node after another

contains_at : (ns : List ℕ) (i : ℕ) → i < length ns → contains ns (get_or ns i 0) ≡ true
contains_at ns i low = list_any_at (λ n. n == get_or ns i 0) ns i 0 low (eq-eqb (get_or ns i 0) (get_or ns i 0) refl)

pub next_log : (s : StateValue) (c i : ℕ) (ns : List ℕ) → ShapeInvariant s → IsNumber s.clients c → ns ≡ full_nodes (standings s) → i < length ns →
    HasLog s.nodes (get_or ns i 0) c
next_log s c i ns shape client all low =
    listed_log s (get_or ns i 0) c shape client (subst (λ ms. contains ms (get_or ns i 0) ≡ true) all (contains_at ns i low))

pub next_least : (ns all : List ℕ) (i : ℕ) (f : ℕ → ℕ) (d least found now : ℕ) → ns ≡ all → i < length ns → least ≡ least_of (take i all) f d →
    found ≡ f (get_or ns i 0) → now ≡ min least found → now ≡ least_of (take (i + 1) all) f d
next_least ns all i f d least found now same low before is taken =
    let next : i + 1 ≡ suc i = omega arith in
    let more : least_of (take (suc i) ns) f d ≡ min (least_of (take i ns) f d) (f (get_or ns i 0)) =
    ap (λ ms. least_of ms f d) (take-suc ns i 0 low) ∙ one_more (take i ns) (get_or ns i 0) f d in
    rw (← same, next) (omega (arith, taken, is, more, rw (← same) at before))

pub all_taken : (ns : List ℕ) (i : ℕ) → length ns ≤ i → take i ns ≡ ns
all_taken ns i past = take_all i ns past

pub whole_taken : (ns all : List ℕ) (i : ℕ) → ns ≡ all → length ns ≤ i → take i all ≡ all
whole_taken ns all i same past = take_all i all (rw same at past)

pub whole_least : (nodes : List Standing) (ns : List ℕ) (i : ℕ) (f : ℕ → ℕ) (d k : ℕ) → ns ≡ full_nodes nodes → length ns ≤ i →
    k ≡ least_of (take i (full_nodes nodes)) f d → k ≡ least_of (full_in nodes) f d
whole_least nodes ns i f d k same past is = is ∙ ap (λ ms. least_of ms f d) (whole_taken ns (full_nodes nodes) i same past) ∙ either_order nodes f d
