-- A client that is opened, and one that isn't after all.
use Rattle.assise_machine_calls.proofs.Common.{◌≡◌, ◌≢◌, ℕ, suc, ◌+◌, ◌-◌, ◌<◌, ◌==◌, Bool, true, false, List, [], ◌∷◌, ◌++◌, None, length, take, get_or, inl}
use Rattle.assise_machine_calls.proofs.Common.{inr, refl, ap, sym, ◌∙◌, arith, eq-eqb, Coded-set, coded_option, coded_ℕ, ∥∥₁_elim, cases_Bool, ne_eqb}
use Rattle.assise_machine_calls.proofs.Common.{length-append, Durability, EntryValue, opens, ReceivedLog, RegionValue, region_with_client, EnrolsAt, SameLevels}
use Rattle.assise_machine_calls.proofs.Common.{TwoLevels, Opening, is_opened, opened, open_fault, MachineInvariant, after_open, ClientValue, opened_on}
use Rattle.assise_machine_calls.proofs.Common.{begun_log, no_region, region_in, with_logs_begun, with_logs_ended, without_log_of, is_full_in, observed}
use Rattle.assise_machine_calls.proofs.Common.{world_of, item_at, CutsInvariant, ShapeInvariant, StateValue, leases_of, standings, seen_full, begun_keeps}
use Rattle.assise_machine_calls.proofs.Common.{begun_at}
use Rattle.assise_machine_state.proofs.Shared.OpenObserved.{open_areas, open_seen, open_shaped}
use Rattle.assise_machine_calls.proofs.OpenFaults.{fine_full}

-- ---- the event

module _ (s : StateValue) (n : ℕ) (u : Durability) (levels : TwoLevels) (shape : ShapeInvariant s) (fine : open_fault (observed s) n ≡ None) where
  same_next : suc (length s.clients) ≡ suc (world_of s).clients
  unfolding world_of
  same_next = refl

  pub is_event : CutsInvariant s → EnrolsAt s.levels levels (suc (length s.clients)) n → Opening (observed s) n u (opened (suc (length s.clients)))
      (observed (after_open s n u levels))
  unfolding observed
  is_event noted enrols =
      is_opened fine (ap opened same_next) record {
        opening = open_seen s n u levels shape noted (seen_full s n (fine_full s n fine)) enrols;
        adds = record {
          history = ap (λ k. s.history ++ opens k n u ∷ []) same_next;
          limit = refl;
          hot = begun_keeps (is_full_in (standings s)) s.limit n 1
              s.nodes;
        };
        keeps = record { members = refl; others = open_areas s n u levels };
      }

  pub keeps_shape : ShapeInvariant (after_open s n u levels)
  keeps_shape = open_shaped s n u levels shape (seen_full s n (fine_full s n fine))

-- ---- what was begun ends

last_gone : (r : RegionValue) (l : ReceivedLog) (c : ℕ) → length r.logs ≡ c → without_log_of (suc c) (region_with_client r l) ≡ r
last_gone r l c all =
    let more : length (r.logs ++ l ∷ []) ≡ length r.logs + 1 = length-append r.logs (l ∷ []) in
    let longer : length (r.logs ++ l ∷ []) ≡ suc c = omega (arith, more, all) in
    let shorter : length (r.logs ++ l ∷ []) - 1 ≡ length r.logs = omega (arith, longer, all) in
    rw (eq-eqb (length (r.logs ++ l ∷ [])) (suc c) longer)
    (ap (λ k. record r { logs = take k (r.logs ++ l ∷ []) }) shorter ∙ ap (λ ls. record r { logs = ls }) (prefix r.logs))
  where
    prefix : (ls : List ReceivedLog) → take (length ls) (ls ++ l ∷ []) ≡ ls
    prefix [] = refl
    prefix (x ∷ ls) = ap (λ ms. x ∷ ms) (prefix ls)

none_gone : (r : RegionValue) (c : ℕ) → length r.logs ≡ 0 → without_log_of (suc c) r ≡ r
none_gone r c none = (let other : length r.logs ≢ suc c = λ same. absurd (omega (arith, none, same)) in rw (ne_eqb (length r.logs) (suc c) other) refl)

all_ended : (full : ℕ → Bool) (limit home m c : ℕ) (rs : List RegionValue) →
    ((i : ℕ) → full (m + i) ≡ true → i < length rs → length (get_or rs i no_region).logs ≡ c) →
    ((i : ℕ) → full (m + i) ≡ false → i < length rs → length (get_or rs i no_region).logs ≡ 0) → with_logs_ended (with_logs_begun full limit home m rs) (suc c)
    ≡ rs
all_ended full limit home m c [] have none = refl
all_ended full limit home m c (r ∷ rs) have none =
    let here : m + 0 ≡ m = omega arith in
    let next : (i : ℕ) → m + suc i ≡ suc m + i = λ i. omega arith in
    let rest : with_logs_ended (with_logs_begun full limit home (suc m) rs) (suc c) ≡ rs =
    all_ended full limit home (suc m) c rs
    (λ i f low. have (suc i) (ap full (next i) ∙ f) (omega (arith, low)))
    (λ i f low. none (suc i) (ap full (next i) ∙ f) (omega (arith, low))) in
    elim (cases_Bool (full m)) [
      | inl f ↦ rw f (λ k. last_gone r (begun_log limit (m == home)) c (have 0 (ap full here ∙ f) (omega arith)) k ∷ rest k)
      | inr away ↦ rw away (λ k. none_gone r c (none 0 (ap full here ∙ away) (omega arith)) k ∷ rest k)
    ]

seen_at : (rs : List RegionValue) (i : ℕ) → region_in rs (1 + i) ≡ get_or rs i no_region
unfolding region_in item_at
seen_at rs i = (let next : 1 + i ≡ suc i = omega arith in rw next refl)

pub ended : (s : StateValue) (n : ℕ) → ShapeInvariant s → with_logs_ended (with_logs_begun (is_full_in (standings s)) s.limit n 1 s.nodes)
    (suc (length s.clients)) ≡ s.nodes
ended s n shape =
    all_ended (is_full_in (standings s)) s.limit n 1 (length s.clients) s.nodes
    (λ i f low. ap (λ r. length r.logs) (sym (seen_at s.nodes i)) ∙ shape.logs (1 + i) f)
    (λ i f low. ap (λ r. length r.logs) (sym (seen_at s.nodes i)) ∙ ap length (shape.no_logs (1 + i) f))

-- ---- leases that stayed

pub same_levels : (old new : TwoLevels) → SameLevels old new → new ≡ old
same_levels old new same = λ i. record { home = λ c. same.home c i; clients = λ j. same.clients j i; nodes = λ j. same.nodes j i }

-- ---- what the laws keep

pub stranger : (s : StateValue) → ∥ MachineInvariant (observed s) ∥₁ → s.levels.home (suc (length s.clients)) ≡ None
unfolding observed leases_of world_of
stranger s holds = ∥∥₁_elim holds (Coded-set (coded_option coded_ℕ) (s.levels.home (suc (length s.clients))) None)
    (λ h. h.leases.strangers (suc (length s.clients)) (λ is. absurd (omega (arith, is.1))))

-- ---- what is left of the state

-- nothing changed after all
pub undone : (s v : StateValue) (n : ℕ) (nodes : List RegionValue) (levels : TwoLevels) → ShapeInvariant s → v ≡ begun_at s n →
    nodes ≡ with_logs_ended v.nodes (suc (length s.clients)) → SameLevels v.levels levels →
    record v { nodes = nodes; levels = levels } ≡ s
undone s v n nodes levels shape begun gone same =
    let back : nodes ≡ s.nodes = gone ∙ ap (λ u. with_logs_ended u.nodes (suc (length s.clients))) begun ∙ ended s n shape in
    let held : levels ≡ s.levels = same_levels v.levels levels same ∙ ap (λ u. u.levels) begun in
    λ i. record {
      nodes = back i;
      members = (begun i).members;
      clients = (begun i).clients;
      levels = held i;
      cuts = (begun i).cuts;
      history = (begun i).history;
      limit = (begun i).limit;
    }

-- the client is opened
pub done : (s v : StateValue) (n : ℕ) (u : Durability) (clients : List ClientValue) (levels : TwoLevels) (history : List EntryValue) → v ≡ begun_at s n →
    clients ≡ v.clients ++ opened_on n u ∷ [] →
    history ≡ v.history ++ opens (suc (length s.clients)) n u ∷ [] → record v { clients = clients; levels = levels; history = history }
    ≡ after_open s n u levels
done s v n u clients levels history begun more told =
    let all : clients ≡ s.clients ++ opened_on n u ∷ [] = more ∙ ap (λ x. x.clients ++ opened_on n u ∷ []) begun in
    let entries : history ≡ s.history ++ opens (suc (length s.clients)) n u ∷ [] = told ∙ ap (λ x. x.history ++ opens (suc (length s.clients)) n u ∷ []) begun
    in
    λ i. record {
      nodes = (begun i).nodes;
      members = (begun i).members;
      clients = all i;
      levels = levels;
      cuts = (begun i).cuts;
      history = entries i;
      limit =
          (begun i).limit;
    }
