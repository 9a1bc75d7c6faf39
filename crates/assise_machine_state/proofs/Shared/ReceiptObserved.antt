-- What the laws observe of records that come to a node.
use Rattle.assise_machine_state.proofs.Common.{◌≡◌, ℕ, ◌+◌, ◌-◌, [], ◌++◌, List, length, take, drop, refl, ap, ◌∙◌, arith, cases_Bool, cases_eq, length-append}
use Rattle.assise_machine_state.proofs.Common.{length-drop, length-take, LogRecord, values, log_end, is_border, ReceivedLog, MayDeliver, Delivers}
use Rattle.assise_machine_state.proofs.Common.{WorldInvariant, Full, World, end_of_log, records_between, OtherAreasStay, after_delivery, client_in, HasLog}
use Rattle.assise_machine_state.proofs.Common.{log_in, region_in, with_records, own_node, own_seen, world_of, IsNumber, ShapeInvariant, StateValue, standings}
use Rattle.assise_machine_state.proofs.Shared.Fullness.{full_seen, has_log, same_first}
use Rattle.assise_machine_state.proofs.Shared.LogChanges.{log_else, log_here, log_same, none_more, region_kept, region_with}
use Rattle.assise_machine_state.proofs.Shared.Marks.{marked_more}
use Rattle.assise_machine_state.proofs.Shared.ShapeKept.{AreMarked, shaped_log}
use Rattle.assise_machine_state.proofs.SameObserved.{clients_as, goals_as, leases_as, logs_as}

-- the node's log of the client then
abbrev delivered_log : StateValue → (n c k : ℕ) → ReceivedLog
delivered_log s n c k = with_records (is_border (own_seen s c).log) (log_in s.nodes n c) (records_between (world_of s) c ((world_of s).received n c) k)

-- the areas of all nodes stay
same_area : (s : StateValue) (n c k m i : ℕ) → (world_of (after_delivery s n c k)).area m i ≡ (world_of s).area m i
unfolding world_of
same_area s n c k m i = region_kept s.nodes n (region_with s.nodes n c (region_in s.nodes n).inodes (delivered_log s n c k)) (λ r. values r.inodes i) refl m

pub other_areas : (s : StateValue) (n c k : ℕ) → OtherAreasStay (world_of s) (world_of (after_delivery s n c k))
other_areas s n c k m i else = same_area s n c k m i

-- what a node has of a log that is a client's own is all of it, and its log of the client begins where the own one does
pub record HasPrefix (s : StateValue) (n c : ℕ) : Type 0 where
  pub all_there : own_node (standings s) (client_in s.clients c) ≡ n → (world_of s).received n c ≡ end_of_log (world_of s) c
  pub first : (log_in s.nodes n c).log.first ≡ (world_of s).first c

pub has_prefix : (s : StateValue) (n c : ℕ) → WorldInvariant (world_of s) → Full (world_of s) n → HasPrefix s n c
unfolding world_of
has_prefix s n c sound full_node = grind (arith, cases_Bool, same_first)

module _ (s : StateValue) (n c k : ℕ) (shape : ShapeInvariant s) (prefix : HasPrefix s n c) (client : IsNumber s.clients c)
    (may : MayDeliver (world_of s) n c k) where
  abbrev w : World
  w = world_of s

  abbrev t : StateValue
  t = after_delivery s n c k

  abbrev w' : World
  w' = world_of t

  abbrev more : List LogRecord
  more = records_between w c (w.received n c) k

  abbrev longer : ReceivedLog
  longer = delivered_log s n c k

  has : HasLog s.nodes n c
  has = has_log s n c shape (full_seen s n may.full_node) client

  -- ---- the client's own log stays: where it is this node's, nothing is missing there

  no_more : w.received n c ≡ end_of_log w c → longer ≡ log_in s.nodes n c
  unfolding records_between
  no_more all =
      let none : k - w.received n c ≡ 0 = omega (arith, all, may.to) in
      let nothing : take (k - w.received n c) (drop (w.received n c - w.first c) (w.records c)) ≡ [] =
      ap (λ j. take j (drop (w.received n c - w.first c) (w.records c))) none in
      ap (with_records (is_border (own_seen s c).log) (log_in s.nodes n c)) nothing ∙ none_more (is_border (own_seen s c).log) (log_in s.nodes n c)

  same_here : own_node (standings s) (client_in s.clients c) ≡ n → (m d : ℕ) → log_in t.nodes m d ≡ log_in s.nodes m d
  same_here own m d = log_same s.nodes n c (region_in s.nodes n).inodes longer (λ x. x) m d (no_more (prefix.all_there own))

  same_else : (m d : ℕ) → (m ≡ n → d ≡ c → ⊥) → log_in t.nodes m d ≡ log_in s.nodes m d
  same_else m d other = log_else s.nodes n c (region_in s.nodes n).inodes longer has m d other

  same_own : (d : ℕ) → own_seen t d ≡ own_seen s d
  unfolding own_seen
  same_own d = grind (arith, cases_eq, same_here, same_else)

  -- and this node's log has its groups
  marked_now : AreMarked s → AreMarked t
  marked_now all m d = grind (arith, same_own, cases_eq, log_here, has, marked_more, same_else)

  pub delivery_shaped : ShapeInvariant t
  delivery_shaped = shaped_log s s.members n c (region_in s.nodes n).inodes longer shape refl refl marked_now refl (λ m. refl)

  -- the number behind the last record of this node's log
  counted : (log_in s.nodes n c).log.first + length ((log_in s.nodes n c).log.records ++ more) ≡ k
  unfolding world_of end_of_log records_between
  counted = grind (arith, length-append, length-take, length-drop)

  pub delivered_prefix : Delivers w n c k w'
  unfolding world_of
  delivered_prefix =
      let logs = logs_as s t refl refl (λ d. ap (λ x. x.log.records) (same_own d)) (λ d. ap (λ x. x.log.first) (same_own d))
      (λ d j. ap (λ x. is_border x.log j) (same_own d)) in
      let here = log_here s.nodes n c (region_in s.nodes n).inodes longer has in
      let log_now : w'.log n c ≡ w.log n c ++ more = ap (λ x. x.log.records) here in
      let received_now : w'.received n c ≡ k = ap (λ x. log_end x.log) here ∙ counted in
      let log_beside : (m d : ℕ) → (m ≡ n → d ≡ c → ⊥) → w'.log m d ≡ w.log m d = λ m d other. ap (λ x. x.log.records) (same_else m d other) in
      let beside : (m d : ℕ) → (m ≡ n → d ≡ c → ⊥) → w'.received m d ≡ w.received m d = λ m d other. ap (λ x. log_end x.log) (same_else m d other) in
      let digested = log_same s.nodes n c (region_in s.nodes n).inodes longer (λ x. x.digested) in
      search (log_beside, beside, digested, same_area, clients_as, goals_as, leases_as) parts 3

pub delivered : (s : StateValue) (n c k : ℕ) → ShapeInvariant s → WorldInvariant (world_of s) → IsNumber s.clients c → MayDeliver (world_of s) n c k →
    Delivers (world_of s) n c k (world_of (after_delivery s n c k))
delivered s n c k shape sound client may = delivered_prefix s n c k shape (has_prefix s n c sound may.full_node) client may
