-- What is cut where a node fails, and what is kept, as the state has it.
use Rattle.assise_machine_failures.proofs.Common.{◌≡◌, ℕ, zero, suc, ◌+◌, ◌-◌, ◌<◌, ◌≤◌, true, false, List, [], ◌∷◌, ◌++◌, if◌then◌else◌, map, take, get_or}
use Rattle.assise_machine_failures.proofs.Common.{slice_get, length, Some, None, refl, ap, sym, subst, ◌∙◌, arith, append-nil, ∥∥₁_elim, props, lt-ltb}
use Rattle.assise_machine_failures.proofs.Common.{map-append, none-some, slice_get_within, slice_get_cases, LogRecord, all_effects, call_of, NumberedLog}
use Rattle.assise_machine_failures.proofs.Common.{log_end, record_at, records_from, touched, ReceivedLog, full_nodes, kept_at_failure, WorldInvariant, World}
use Rattle.assise_machine_failures.proofs.Common.{call_at, end_of_log, records_between, is_cut, losses_to, client_in, log_in, own_node, own_seen, world_of}
use Rattle.assise_machine_failures.proofs.Common.{IsNumber, ShapeInvariant, StateValue, standings, kept_from_first, own_end, loss_of, kept_inodes, kept_to}
use Rattle.assise_machine_failures.proofs.KeptPlaces.{kept_count, kept_place}

-- ---- one client more

pub one_kept : (w : World) (n c k : ℕ) (ks js : List ℕ) → 1 ≤ c → ks ≡ kept_to w n (c - 1) → js ≡ ks ++ k ∷ [] → k ≡ kept_at_failure w n c → js ≡ kept_to w n c
one_kept w n zero k ks js low before push is = absurd (omega (arith, low))
one_kept w n (suc m) k ks js low before push is = grind arith

loss_step : (w : World) (n m k : ℕ) → suc m ≡ k →
    losses_to w n k ≡ losses_to w n m ++ (if is_cut w n k then record { client = k; first = call_at w k (kept_at_failure w n k) } ∷ [] else [])
loss_step w n m k next = grind arith

pub one_lost : (w : World) (n m call : ℕ) (ls ks : List (ℕ × ℕ)) → map loss_of ls ≡ losses_to w n m → ks ≡ ls ++ (m + 1, call) ∷ [] →
    is_cut w n (m + 1) ≡ true → call_at w (m + 1) (kept_at_failure w n (m + 1)) ≡ call →
    map loss_of ks ≡ losses_to w n (m + 1)
one_lost w n m call ls ks before push cut is = grind (arith, map-append)

pub none_lost : (w : World) (n m : ℕ) (ls ks : List (ℕ × ℕ)) → map loss_of ls ≡ losses_to w n m → ks ≡ ls → is_cut w n (m + 1) ≡ false →
    map loss_of ks ≡ losses_to w n (m + 1)
none_lost w n m ls ks before same whole = grind (arith, append-nil)

-- what one client's records touch which are kept
abbrev pub touched_kept : World → ℕ → ℕ → List ℕ
touched_kept w n c = touched (all_effects (records_between w c (w.first c) (kept_at_failure w n c)))

pub one_touched : (w : World) (n m : ℕ) (is js : List ℕ) → is ≡ kept_inodes w n m → js ≡ is ++ touched_kept w n (m + 1) → js ≡ kept_inodes w n (m + 1)
one_touched w n m is js before more = grind arith

-- ---- the list of places

module _ (s : StateValue) (n : ℕ) (ks : List ℕ) (all : ks ≡ kept_to (world_of s) n (length s.clients)) (k : ℕ) (low : k < length ks) where
  pub place_within : k < length s.clients
  place_within = (let count : length ks ≡ length s.clients = ap length all ∙ kept_count (world_of s) n (length s.clients) in omega (arith, low, count))

  pub place_client : IsNumber s.clients (k + 1)
  place_client = record { some = omega arith; there = omega (arith, place_within) }

  pub place_kept : get_or ks k 0 ≡ kept_at_failure (world_of s) n (k + 1)
  place_kept = grind (arith, kept_place, place_within)

pub all_places : (s : StateValue) (n : ℕ) (ks : List ℕ) (k : ℕ) → ks ≡ kept_to (world_of s) n (length s.clients) → k ≤ length ks → length ks ≤ k →
    k ≡ length s.clients
all_places s n ks k all most least = grind (arith, kept_count)

-- ---- the first record that is lost

call_there : (rs : List LogRecord) (k next : ℕ) (r : LogRecord) → slice_get rs k ≡ Some r → call_of rs k next ≡ r.call
call_there [] k next r is = absurd (none-some r is)
call_there (q ∷ rs) zero next r is = cc
call_there (q ∷ rs) (suc k) next r is = call_there rs k next r is

-- a record that is there lies before the end
there_lost : (l : NumberedLog) (k next : ℕ) (r : LogRecord) → record_at l k ≡ Some r → (k < log_end l) × (call_of l.records (k - l.first) next ≡ r.call)
there_lost l k next r is = grind (arith, slice_get_within, call_there)

nothing_lost : (l : NumberedLog) (k : ℕ) → l.first ≤ k → record_at l k ≡ None → log_end l ≤ k
nothing_lost l k first none = grind (arith, slice_get_cases)

-- ---- a client's own log

module _ (s : StateValue) (n c : ℕ) (shape : ShapeInvariant s) (client : IsNumber s.clients c) (some : 0 < length (full_nodes (standings s))) where
  abbrev own : ReceivedLog
  own = log_in s.nodes (own_node (standings s) (client_in s.clients c)) c

  abbrev cut : ℕ
  cut = kept_at_failure (world_of s) n c

  own_is : own_seen s c ≡ own
  unfolding own_seen
  own_is = refl

  records_is : (world_of s).records c ≡ own.log.records
  unfolding world_of
  records_is = ap (λ l. l.log.records) own_is

  pub first_is : (world_of s).first c ≡ own.log.first
  unfolding world_of
  first_is = ap (λ l. l.log.first) own_is

  -- it is kept from its first place on
  pub first_kept : ∥ WorldInvariant (world_of s) ∥₁ → own.log.first ≤ cut
  first_kept sound = (let low : (world_of s).first c ≤ cut = ∥∥₁_elim sound (search props) (kept_from_first (world_of s) n c) in omega (arith, low, first_is))

  pub lost_here : (l : NumberedLog) (r : LogRecord) → l ≡ own.log → record_at l cut ≡ Some r → (is_cut (world_of s) n c ≡ true)
      × (call_at (world_of s) c cut ≡ r.call)
  unfolding call_at
  lost_here l r same is =
      let there = there_lost own.log cut ((world_of s).next c) r (ap (λ k. record_at k cut) (sym same) ∙ is) in
      let low : cut < end_of_log (world_of s) c = subst (λ e. cut < e) (sym (own_end s c shape client some)) there.0 in
      (lt-ltb cut (end_of_log (world_of s) c) low, (λ i. call_of (records_is i) (cut - first_is i) ((world_of s).next c)) ∙ there.1)

  pub whole_here : (l : NumberedLog) → ∥ WorldInvariant (world_of s) ∥₁ → l ≡ own.log → record_at l cut ≡ None → is_cut (world_of s) n c ≡ false
  whole_here l sound same none = grind (arith, nothing_lost, first_kept, own_end)

  pub touched_here : (l : NumberedLog) → l ≡ own.log → touched (all_effects (take (cut - l.first) (records_from l l.first))) ≡ touched_kept (world_of s) n c
  unfolding records_between
  touched_here l same = grind (arith, first_is, records_is)
