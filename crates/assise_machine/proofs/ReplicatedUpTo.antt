-- What the headline says of regions is what the laws observe: which records are replicated, and which calls are replicated.
use Rattle.assise_machine.proofs.Common.{◌≡◌, ◌⊎◌, ℕ, zero, suc, ◌-◌, ◌<◌, ◌≤◌, nat_le, true, false, List, [], ◌∷◌, drop, get_or, length, take, inl, inr, refl}
use Rattle.assise_machine.proofs.Common.{ap, sym, ◌∙◌, arith, cases_Bool, cases_lt, drop-nil, take-nil, calls_made, LogRecord, call_of, log_end, records_from}
use Rattle.assise_machine.proofs.Common.{RegionValue, no_log, lowest_full, full_nodes, WorldInvariant, Full, World, call_at, end_of_log, first_unreplicated}
use Rattle.assise_machine.proofs.Common.{received_by_all, least_of-above, least_of-end, received_by_all-below, client_in, no_client, log_in, no_region}
use Rattle.assise_machine.proofs.Common.{region_in, is_full_in, world_of, IsNumber, item_at, ShapeInvariant, StateValue, standings, full_number, full_seen}
use Rattle.assise_machine.proofs.Common.{same_first, seen_full, seen_nothing, seen_past, lowest_listed, call_from, first_call, least_end, received_log}
use Rattle.assise_model_world.proofs.Shared.Replicated.{log_of_home, log_of_left}

-- ---- the least place

least_end-most : (c : ℕ) (rs : List RegionValue) (m : ℕ) → least_end c rs m ≤ m
least_end-most c [] m = omega arith
least_end-most c (r ∷ rs) m = grind (arith, least_end-most c rs m)

least_end-below : (c : ℕ) (none : RegionValue) (rs : List RegionValue) (m k : ℕ) → k < length rs → nat_le c (length (get_or rs k none).logs) ≡ true →
    least_end c rs m ≤ log_end (received_log (get_or rs k none) c)
least_end-below c none [] m k low has = absurd (omega (arith, low))
least_end-below c none (r ∷ rs) m zero low has = rw has (omega arith)
least_end-below c none (r ∷ rs) m (suc k) low has = grind (arith, least_end-below c none rs m k (omega (arith, low)) has)

least_end-above : (c : ℕ) (none : RegionValue) (rs : List RegionValue) (m j : ℕ) → j ≤ m →
    ((k : ℕ) → k < length rs → nat_le c (length (get_or rs k none).logs) ≡ true → j ≤ log_end (received_log (get_or rs k none) c)) → j ≤ least_end c rs m
least_end-above c none [] m j low each = low
least_end-above c none (r ∷ rs) m j low each =
    let rest : j ≤ least_end c rs m = least_end-above c none rs m j low (λ k inside has. each (suc k) (omega (arith, inside)) has) in
    elim (cases_Bool (nat_le c (length r.logs))) [
      | inl has ↦ (let here : j ≤ log_end (received_log r c) = each zero (omega arith) has in rw has (omega (arith, here, rest)))
      | inr lacks ↦ rw lacks rest
    ]

-- ---- the first call from a place on

all_found : (xs : List LogRecord) (d next : ℕ) → first_call (drop d xs) next ≡ call_of xs d next
all_found [] zero next = refl
all_found [] (suc d) next = refl
all_found (r ∷ rs) zero next = refl
all_found (r ∷ rs) (suc d) next = all_found rs d next

-- of the records from a place on the first is found in any prefix that has it
prefix_found : (xs : List LogRecord) (d t next : ℕ) → first_call (drop d (take t xs)) (call_of xs d next) ≡ call_of xs d next
prefix_found [] d t next = rw (take-nil t, drop-nil d) refl
prefix_found (r ∷ rs) zero zero next = refl
prefix_found (r ∷ rs) zero (suc t) next = refl
prefix_found (r ∷ rs) (suc d) zero next = refl
prefix_found (r ∷ rs) (suc d) (suc t) next = prefix_found rs d t next

prefix_either : (xs : List LogRecord) (d t next : ℕ) → (first_call (drop d (take t xs)) next ≡ call_of xs d next)
    ⊎ (first_call (drop d (take t xs)) next ≡ next)
prefix_either [] d t next = inr (rw (take-nil t, drop-nil d) refl)
prefix_either (r ∷ rs) zero zero next = inr refl
prefix_either (r ∷ rs) zero (suc t) next = inl refl
prefix_either (r ∷ rs) (suc d) zero next = inr refl
prefix_either (r ∷ rs) (suc d) (suc t) next = prefix_either rs d t next

module _ (c place : ℕ) (xs : List LogRecord) (d next : ℕ) (none : RegionValue) where
  -- a node has a prefix of these records
  record HasPrefix (r : RegionValue) : Type 0 where
    taken : ℕ
    is : records_from (received_log r c) place ≡ drop d (take taken xs)

  abbrev All : List RegionValue → Type 0
  All rs = (k : ℕ) → k < length rs → HasPrefix (get_or rs k none)

  tail : (r : RegionValue) (rs : List RegionValue) → All (r ∷ rs) → All rs
  tail r rs each = λ k low. each (suc k) (omega (arith, low))

  call_either : (rs : List RegionValue) → All rs → (call_from c place rs next ≡ call_of xs d next) ⊎ (call_from c place rs next ≡ next)
  call_either [] each = inr refl
  call_either (r ∷ rs) each =
      let here : HasPrefix r = each zero (omega arith) in
      elim (call_either rs (tail r rs each)) [
        | inl is ↦ inl ((λ i. first_call (here.is i) (is i)) ∙ prefix_found xs d here.taken next)
        | inr is ↦ grind (arith, prefix_either)
      ]

  -- where one node has all of them
  call_found : (rs : List RegionValue) (k : ℕ) → k < length rs → All rs → records_from (received_log (get_or rs k none) c) place ≡ drop d xs →
      call_from c place rs next ≡ call_of xs d next
  call_found [] k low each own = absurd (omega (arith, low))
  call_found (r ∷ rs) zero low each own = grind (arith, call_either rs (tail r rs each), all_found xs d next)
  call_found (r ∷ rs) (suc k) low each own =
      let here : HasPrefix r = each zero (omega arith) in
      let rest : call_from c place rs next ≡ call_of xs d next = call_found rs k (omega (arith, low)) (tail r rs each) own in
      (λ i. first_call (here.is i) (rest i)) ∙ prefix_found xs d here.taken next

-- ---- as the laws observe it

module _ (s : StateValue) (shape : ShapeInvariant s) (some : 0 < length (full_nodes (standings s))) (sound : WorldInvariant (world_of s))
    (counted : (c : ℕ) → (world_of s).next c ≡ calls_made c s.history) where
  abbrev w : World
  w = world_of s

  abbrev next : ℕ → ℕ
  next c = calls_made c s.history

  abbrev region_at : ℕ → RegionValue
  region_at j = get_or s.nodes j no_region

  seen_at : (j : ℕ) → region_in s.nodes (suc j) ≡ region_at j
  unfolding region_in item_at
  seen_at j = refl

  log_there : (j c : ℕ) → (log_in s.nodes (suc j) c).log ≡ received_log (region_at j) c
  unfolding log_in
  log_there j c = ap (λ r. (item_at no_log r.logs c).log) (seen_at j)

  received_there : (j c : ℕ) → w.received (suc j) c ≡ log_end (received_log (region_at j) c)
  unfolding world_of
  received_there j c = ap log_end (log_there j c)

  first_there : (j c : ℕ) → Full w (suc j) → (received_log (region_at j) c).first ≡ w.first c
  first_there j c full = ap (λ l. l.first) (sym (log_there j c)) ∙ same_first s (suc j) c sound full

  records_there : (j c : ℕ) → (received_log (region_at j) c).records ≡ w.log (suc j) c
  unfolding world_of
  records_there j c = ap (λ l. l.records) (sym (log_there j c))

  none_there : (j c : ℕ) → is_full_in (standings s) (suc j) ≡ false → (region_at j).logs ≡ []
  none_there j c away = ap (λ r. r.logs) (sym (seen_at j)) ∙ shape.no_logs (suc j) away

  -- a node that is full
  record IsPlace (n : ℕ) : Type 0 where
    place : ℕ
    is : n ≡ suc place
    inside : place < length s.nodes
    full : Full w (suc place)

  place_of : (n : ℕ) → Full w n → IsPlace n
  place_of zero full = absurd (omega (arith, (full_number s zero shape (full_seen s zero full)).some))
  place_of (suc j) full = record { place = j; is = refl; inside = omega (arith, (full_number s (suc j) shape (full_seen s (suc j) full)).there); full = full }

  one_full : Full w (lowest_full (standings s))
  one_full = seen_full s (lowest_full (standings s)) (lowest_listed (standings s) some)

  few : (c : ℕ) → end_of_log w c ≤ next c
  few c = omega (arith, sound.few_records c, counted c)

  -- ---- of a client

  has_it : (j c : ℕ) → IsNumber s.clients c → Full w (suc j) → nat_le c (length (region_at j).logs) ≡ true
  has_it j c client full = grind (arith, seen_at j, full_seen s (suc j) full)

  low_at : (j c : ℕ) → IsNumber s.clients c → nat_le c (length (region_at j).logs) ≡ true → received_by_all w c ≤ log_end (received_log (region_at j) c)
  low_at j c client has = grind (arith, received_by_all-below, seen_full, received_there j c, none_there)

  below_full : (n c : ℕ) → IsNumber s.clients c → Full w n → least_end c s.nodes (next c) ≤ w.received n c
  below_full n c client full = grind (arith, place_of n full, least_end-below, has_it, received_there)

  received-above : (c k : ℕ) → k ≤ end_of_log w c → ((n : ℕ) → Full w n → k ≤ w.received n c) → k ≤ received_by_all w c
  unfolding received_by_all
  received-above c k low each = least_of-above w.full (λ n. w.received n c) (end_of_log w c) k low each

  received-end : (c : ℕ) → received_by_all w c ≤ end_of_log w c
  unfolding received_by_all
  received-end c = least_of-end w.full (λ n. w.received n c) (end_of_log w c)

  least_of_client : (c : ℕ) → IsNumber s.clients c → least_end c s.nodes (next c) ≡ received_by_all w c
  least_of_client c client =
      let n : ℕ = lowest_full (standings s) in
      let known : w.received n c ≤ end_of_log w c = (sound.coherent.order n c one_full).known in
      let there : least_end c s.nodes (next c) ≤ w.received n c = below_full n c client one_full in
      let high : least_end c s.nodes (next c) ≤ received_by_all w c = grind (arith, received-above, below_full) in
      let low : received_by_all w c ≤ least_end c s.nodes (next c) =
      least_end-above c no_region s.nodes (next c) (received_by_all w c) (omega (arith, received-end c, few c)) (λ j inside has. low_at j c client has) in
      omega (arith, high, low)

  -- who was not opened made no calls
  none_made : (c : ℕ) → client_in s.clients c ≡ no_client → next c ≡ 0
  unfolding world_of
  none_made c nobody = sym (counted c) ∙ ap (λ x. x.next) nobody

  least_of_nobody : (c : ℕ) → next c ≡ 0 → least_end c s.nodes (next c) ≡ received_by_all w c
  least_of_nobody c none = grind (arith, least_end-most, received-end, few)

  unopened : (c : ℕ) → length s.clients < c → client_in s.clients c ≡ no_client
  unfolding client_in
  unopened c past = seen_past no_client s.clients c past

  nobody : client_in s.clients 0 ≡ no_client
  unfolding client_in item_at
  nobody = refl

  pub least_is : (c : ℕ) → least_end c s.nodes (next c) ≡ received_by_all w c
  least_is zero = least_of_nobody zero (none_made zero nobody)
  least_is (suc c) =
      elim (cases_lt (length s.clients) (suc c)) [
        | inl past ↦ least_of_nobody (suc c) (none_made (suc c) (unopened (suc c) past))
        | inr there ↦ least_of_client (suc c) (record { some = omega arith; there = there })
      ]

  -- ---- the first call that some node may lack

  module _ (c place : ℕ) where
    abbrev d : ℕ
    d = place - w.first c

    prefix_at : (j : ℕ) → HasPrefix c place (w.records c) d (next c) no_region (region_at j)
    prefix_at j =
        elim (cases_Bool (is_full_in (standings s) (suc j))) [
          | inl f ↦
              let full : Full w (suc j) = seen_full s (suc j) f in
              record {
                taken = w.received (suc j) c - w.first c;
                is = (λ i. drop (place - first_there j c full i) (records_there j c i)) ∙ ap (drop d) (sound.prefixes (suc j) c full);
              }
          | inr away ↦ record {
            taken = 0;
            is = ap (λ ls. records_from (item_at no_log ls c).log place) (none_there j c away)
                ∙ ap (λ l. records_from l.log place) (seen_nothing no_log c) ∙ drop-nil (place - 0) ∙ sym (drop-nil d);
          }
        ]

    -- a full node that has all of them
    record HasAll : Type 0 where
      node : ℕ
      full : Full w node
      all : w.records c ≡ w.log node c

    one_has_all : HasAll
    one_has_all =
        elim (cases_Bool (w.lives c)) [
          | inl lives ↦ record { node = w.home c; full = sound.homes c lives; all = log_of_home w c sound lives }
          | inr over ↦ record { node = lowest_full (standings s); full = one_full; all = log_of_left w (lowest_full (standings s)) c sound over one_full }
        ]

    found : call_from c place s.nodes (next c) ≡ call_of (w.records c) d (next c)
    found =
        let one : HasAll = one_has_all in
        let p : IsPlace one.node = place_of one.node one.full in
        call_found c place (w.records c) d (next c) no_region s.nodes p.place p.inside (λ k low. prefix_at k)
        ((λ i. drop (place - first_there p.place c p.full i) (records_there p.place c i)) ∙ ap (drop d) (ap (λ n. w.log n c) (sym p.is) ∙ sym one.all))

    call_is : call_from c place s.nodes (next c) ≡ call_at w c place
    unfolding call_at
    call_is = found ∙ ap (call_of (w.records c) d) (sym (counted c))

  pub replicated_is : (c : ℕ) → call_from c (least_end c s.nodes (next c)) s.nodes (next c) ≡ first_unreplicated w c
  unfolding first_unreplicated
  replicated_is c = ap (λ k. call_from c k s.nodes (next c)) (least_is c) ∙ call_is c (received_by_all w c)
