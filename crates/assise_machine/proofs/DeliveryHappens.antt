-- A delivery, as the laws have it.
use Rattle.assise_machine.proofs.Common.{◌≡◌, ◌≢◌, ℕ, Bool, ◌+◌, ◌-◌, ◌^◌, ◌<◌, ◌≤◌, ◌==◌, max, true, false, not, inl, inr, [], length, take, drop, None, refl}
use Rattle.assise_machine.proofs.Common.{ap, sym, subst, ◌∙◌, append-nil, arith, ∥∥₁_elim, ∥∥₁_map, props, and_parts, cases_lt, eqb-true, false_from_ne_true}
use Rattle.assise_machine.proofs.Common.{not-true, drop_all, length-drop, length-take, LogFrame, NumberedLog, log_end, is_border, records_from, border_first}
use Rattle.assise_machine.proofs.Common.{full_nodes, MayDeliver, IsOrdered, World, end_of_log, records_between, deliver_to, IsTimelyDelivery, delivery_fault}
use Rattle.assise_machine.proofs.Common.{MachineInvariant, Delivering, is_delivered, event_keeps, after_delivery, client_in, HasGroupsOf, HasLog, log_in}
use Rattle.assise_machine.proofs.Common.{with_log_in, with_records, is_full_in, observed, own_node, own_seen, world_of, IsNumber, CutsInvariant, ShapeInvariant}
use Rattle.assise_machine.proofs.Common.{StateValue, leases_of, standings, machine_of, value_of, SoundOf, has_log, seen_full, border_inside, so_many_marks}
use Rattle.assise_machine.proofs.Common.{still_noted, log_keeps, level_of, newest}
use Rattle.assise_model_events.specs.Events.{received as told}
use Rattle.assise_machine_state.proofs.Shared.OwnLogs.{own_log as has_own_log}
use Rattle.assise_machine_state.proofs.Shared.ReceiptObserved.{HasPrefix, delivered_prefix, delivery_shaped, has_prefix, other_areas}
use Rattle.assise_machine_state.proofs.Shared.RecordsTaken.{none_taken}
use Rattle.assise_machine.specs.Taking.{HasRoomFor, IsNext, IsNextOf, lacking, own_log}
use Rattle.assise_machine.proofs.DeliveryFaults.{fine_client, fine_full}

-- a delivery with its answer, and the invariant after it
pub record Gives (s : StateValue) (f : LogFrame) (n p : ℕ) (u : StateValue) : Type 0 where
  pub happens : Delivering (observed s) f n (told p) (observed u)
  pub holds : ∥ MachineInvariant (observed u) ∥₁
  pub shape : ShapeInvariant u
  pub noted : CutsInvariant u

-- where a frame may come to a node in a state where all invariants hold, and `r` is the number behind the last record of the client
-- that the node has
pub record Comes (s : StateValue) (f : LogFrame) (n r : ℕ) : Type 0 where
  pub shape : ShapeInvariant s
  pub holds : ∥ MachineInvariant (observed s) ∥₁
  pub noted : CutsInvariant s
  pub some_full : 0 < length (full_nodes (standings s))
  pub fine : delivery_fault (observed s) f n ≡ None
  pub is : r ≡ (world_of s).received n f.client

-- as the code finds it
pub comes : {C : Type 0} (sound : SoundOf C) (f : LogFrame) (n r k : ℕ) (l : NumberedLog) → delivery_fault (machine_of sound.state) f n ≡ None →
    r ≡ log_end l → l ≡ (log_in sound.state.nodes n k).log → k ≡ f.client → Comes (value_of sound.state) f n r
unfolding world_of
comes sound f n r k l fine is log of_client = grind arith

-- ---- what the laws ask of a delivery

module _ {s : StateValue} {f : LogFrame} {n r : ℕ} (came : Comes s f n r) where
  abbrev c : ℕ
  c = f.client

  abbrev w : World
  w = world_of s

  pub client : IsNumber s.clients c
  client = fine_client s f n came.fine

  full : is_full_in (standings s) n ≡ true
  full = fine_full s f n came.fine

  pub has : HasLog s.nodes n c
  has = has_log s n c came.shape full client

  pub has_own : HasLog s.nodes (own_node (standings s) (client_in s.clients c)) c
  has_own = has_own_log s c came.shape client came.some_full

  order : IsOrdered w n c
  unfolding observed
  order = ∥∥₁_elim came.holds (hlevel props) (λ h. h.sound.coherent.order n c (seen_full s n full))

  prefix : HasPrefix s n c
  unfolding observed
  prefix = ∥∥₁_elim came.holds (hlevel props) (λ h. has_prefix s n c h.sound (seen_full s n full))

  own_is : (own_seen s c).log ≡ own_log s c
  unfolding own_seen
  own_is = refl

  -- where the client's groups lie
  abbrev own_border : ℕ → Bool
  own_border = is_border (own_seen s c).log

  counted : w.received n c ≡ w.first c + length (log_in s.nodes n c).log.records
  unfolding world_of
  counted = ap (λ k. k + length (log_in s.nodes n c).log.records) prefix.first

  first_is : w.first c ≡ (own_log s c).first
  unfolding world_of
  first_is = ap (λ l. l.first) own_is

  pub begun : (own_log s c).first ≤ r
  begun = omega (arith, came.is, counted, first_is)

  -- the client's own log has a border where the node's ends
  ends_whole : (w.received n c < f.first + length f.records → w.border c (f.first + length f.records) ≡ true) →
      w.border c (max (w.received n c) (f.first + length f.records)) ≡ true
  ends_whole whole = grind (arith, cases_lt, order)

  abbrev Next : NumberedLog → ℕ → Type 0
  Next l k = IsNext l s.members.epoch (newest (level_of s.members.levels n)) f k

  pub is_next : IsNextOf s f n r → IsTimelyDelivery (observed s) f n
  unfolding observed world_of own_seen
  is_next next = (let v = subst (Next (own_log s c)) came.is next in assumption (ends_whole v.whole, v))

  from_timely : IsTimelyDelivery (observed s) f n → Next (own_log s c) (w.received n c)
  unfolding observed world_of own_seen
  from_timely timely = grind arith

  pub not_timely : (IsNextOf s f n r → ⊥) → IsTimelyDelivery (observed s) f n → ⊥
  not_timely stale timely = stale (subst (Next (own_log s c)) (sym came.is) (from_timely timely))

  -- ---- where the frame is timely

  module _ (next : IsNextOf s f n r) where
    timely : IsTimelyDelivery (observed s) f n
    timely = is_next next

    abbrev place : ℕ
    place = max (w.received n c) (f.first + length f.records)

    abbrev t : StateValue
    t = after_delivery s n c place

    so_many : length (lacking f r) ≡ place - w.received n c
    so_many = (let left = length-drop (r - f.first) f.records in omega (arith, left, came.is, next.no_gap))

    own : take (length (lacking f r)) (drop (r - w.first c) (w.records c)) ≡ lacking f r
    unfolding world_of
    own = subst (λ l. take (length (lacking f r)) (records_from l r) ≡ lacking f r) (sym own_is) next.own

    more_is : records_between w c (w.received n c) place ≡ lacking f r
    unfolding records_between
    more_is = (λ i. take (sym so_many i) (drop (sym came.is i - w.first c) (w.records c))) ∙ own

    low : length (lacking f r) ≤ length (w.records c) - (r - w.first c)
    low =
        let taken = length-take (length (lacking f r)) (drop (r - w.first c) (w.records c)) in
        let left = length-drop (r - w.first c) (w.records c) in
        let same = ap length own in
        omega (arith, taken, left, same)

    high : place ≤ end_of_log w c
    unfolding end_of_log
    high = omega (arith, low, so_many, came.is, order.known, counted)

    may : MayDeliver w n c place
    unfolding observed
    may = record { full_node = seen_full s n full; from = omega arith; to = high; border_to = timely.whole }

    delivered_now : Delivering (observed s) f n (told place) (observed t)
    unfolding observed world_of leases_of
    delivered_now = is_delivered came.fine refl (record {
      timely = timely;
      delivers = delivered_prefix s n c place came.shape prefix client may;
      leases = refl;
      adds = record { history = sym (append-nil s.history); limit = refl; hot = log_keeps s.nodes n c _ };
      keeps = record { members = refl; others = other_areas s n c place };
    })

    -- where nothing is new the state stays
    pub nothing_new : f.first + length f.records ≤ r → Delivering (observed s) f n (told r) (observed s)
    nothing_new old =
        let none : records_between w c (w.received n c) place ≡ [] = more_is ∙ drop_all (r - f.first) f.records (omega (arith, old, next.no_gap)) in
        let same : t ≡ s =
        ap (λ more. record s { nodes = with_log_in s.nodes n c (with_records own_border (log_in s.nodes n c) more) }) none
        ∙ (λ i. record s { nodes = none_taken own_border s.nodes n c i })
        in
        let here : place ≡ r = omega (arith, old, came.is) in
        subst (λ u. Delivering (observed s) f n (told r) (observed u)) same
        (subst (λ k. Delivering (observed s) f n (told k) (observed t)) here delivered_now)

    module _ (past : r < f.first + length f.records) where
      pub some_new : 0 < length (lacking f r)
      some_new = (let left = length-drop (r - f.first) f.records in omega (arith, left, past, next.no_gap))

      -- the client's own log is another node's
      pub own_other : own_node (standings s) (client_in s.clients c) ≢ n
      own_other own = (let all : w.received n c ≡ end_of_log w c = prefix.all_there own in omega (arith, all, some_new, so_many, high))

      -- so the client doesn't live here
      pub lives_elsewhere : (log_in s.nodes n c).at_home ≡ false
      lives_elsewhere =
          false_from_ne_true (log_in s.nodes n c).at_home (λ here.
          let known_there = sym (came.shape.at_home n c) ∙ here in
          let parts = and_parts (n == (client_in s.clients c).home) (not (client_in s.clients c).failed) known_there in
          let unfailed : (client_in s.clients c).failed ≡ false = not-true (client_in s.clients c).failed parts.1 in
          own_other (rw unfailed (sym (eqb-true n (client_in s.clients c).home parts.0))))

      pub room : HasRoomFor (own_log s c) r (length (lacking f r)) →
          length (log_in s.nodes n c).log.records + length (lacking f r) ≤ (log_in s.nodes n c).log.limit
      room fits =
          let here : (log_in s.nodes n c).log.limit ≡ s.limit = came.shape.limits n c has in
          let there : (own_log s c).limit ≡ s.limit = came.shape.limits (own_node (standings s) (client_in s.clients c)) c has_own in
          omega (arith, fits, here, there, came.is, counted, first_is)

      pub numbers : f.first + length f.records ≤ 18446744073709551615 → log_end (log_in s.nodes n c).log + length (lacking f r) < 2 ^ 64
      unfolding world_of
      numbers fits = (let left = length-drop (r - f.first) f.records in omega (arith, left, came.is, next.no_gap, past, fits))

      -- the own log's borders are those of this node's log, as far as that goes
      pub groups : HasGroupsOf (own_log s c) (log_in s.nodes n c).log
      groups =
          subst (λ own. HasGroupsOf own (log_in s.nodes n c).log) own_is
          (record {
            marks = so_many_marks own_border (log_in s.nodes n c).log (came.shape.marked n c);
            borders = λ k low is. elim (cases_lt (log_in s.nodes n c).log.first k) [
              | inl inside ↦ border_inside own_border (log_in s.nodes n c).log k (came.shape.marked n c) inside low ∙ is
              | inr before ↦ border_first (log_in s.nodes n c).log k before
            ];
          })

      -- the state as the code leaves it
      abbrev taken : StateValue
      taken = record s { nodes = with_log_in s.nodes n c (with_records (is_border (own_log s c)) (log_in s.nodes n c) (lacking f r)) }

      taken_is : t ≡ taken
      taken_is = λ i. record s { nodes = with_log_in s.nodes n c (with_records (is_border (own_is i)) (log_in s.nodes n c) (more_is i)) }

      place_is : place ≡ f.first + length f.records
      place_is = omega (arith, past, came.is)

      gives : Gives s f n place t
      gives = record {
        happens = delivered_now;
        holds = ∥∥₁_map came.holds (λ h. event_keeps (observed s) (observed t) (deliver_to f n) (told place) h delivered_now);
        shape = delivery_shaped s n c place came.shape prefix client may;
        noted = still_noted s t refl (omega arith) (λ d i. refl) came.noted;
      }

      pub given : Gives s f n (f.first + length f.records) taken
      given = subst (λ k. Gives s f n k taken) place_is (subst (Gives s f n place) taken_is gives)
