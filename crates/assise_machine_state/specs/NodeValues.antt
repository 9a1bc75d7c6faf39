-- What nodes have: for each its inodes, and the logs that it received.
-- Assise (OSDI 2020), section 3 (CC-NVM: update logs, shared areas, recovery).
use Rattle.std.specs.Prelude.{◌≡◌, ℕ, zero, suc, ◌-◌, ◌<◌, ◌≤◌, nat_le, Bool, true, false, ◌==◌, if◌then◌else◌, List, [], ◌∷◌, ◌++◌, length, map, slice_index_or, slice_set, take}
use Rattle.assise_record.specs.Records.{all_effects, has_some}
use Rattle.assise_inode_table.specs.Effects.{all_applied}
use Rattle.assise_inode_table.specs.Opening.{opening_inodes}
use Rattle.assise_record.specs.declared.effect.Effect.{Effect}
use Rattle.assise_record.specs.LogRecord.{LogRecord}
use Rattle.assise_private_log.specs.NumberedLog.{NumberedLog, empty_log, end, is_border}
use Rattle.assise_digest.specs.Region.{AreWhole, HasClient, IsBegun, ReceivedLog, RegionValue, ahead, digested_further, from_number, log_of, no_log, up_to_number, region_with_client, with_hot_capacity, with_log, with_more, with_one, without_clients, without_last_client}
use Rattle.assise_model_events.specs.NodeEvents.{border_marks}
use Rattle.assise_machine_state.specs.Places.{IsNumber, item_at, with_item}

-- a node that received nothing, of which `hot` inodes may be hot
abbrev pub new_region : (hot : ℕ) → RegionValue
new_region hot = record { inodes = opening_inodes; logs = []; capacity = hot }

-- `count` of them
abbrev pub new_regions : (count hot : ℕ) → List RegionValue
new_regions zero hot = []
new_regions (suc count) hot = new_region hot ∷ new_regions count hot

-- what a node has that isn't there
abbrev pub no_region : RegionValue
no_region = new_region 0

unfoldable pub region_in : List RegionValue → ℕ → RegionValue
region_in rs n = item_at no_region rs n

-- how many inodes may be hot at each node, by number
abbrev pub hot_capacities : List RegionValue → List ℕ
hot_capacities rs = map (λ r. r.capacity) rs

-- what node n has of client c's log
unfoldable pub log_in : List RegionValue → ℕ → ℕ → ReceivedLog
log_in rs n c = item_at no_log (region_in rs n).logs c

-- node n has a log of client c
pub record HasLog (rs : List RegionValue) (n c : ℕ) : Type 0 where
  pub node : IsNumber rs n
  pub client : HasClient (region_in rs n) c

-- ---- changes at one node

abbrev pub with_region : List RegionValue → ℕ → RegionValue → List RegionValue
with_region rs n r = with_item rs n r

abbrev pub with_log_in : List RegionValue → ℕ → ℕ → ReceivedLog → List RegionValue
with_log_in rs n c l = with_region rs n (record (region_in rs n) { logs = with_item (region_in rs n).logs c l })

-- `capacity` inodes may be hot at node n
abbrev pub with_hot_in : List RegionValue → ℕ → (capacity : ℕ) → List RegionValue
with_hot_in rs n capacity = slice_set rs (n - 1) (with_hot_capacity (slice_index_or rs (n - 1) no_region) capacity)

-- the effects of a call, if it has some, are a record more of the client's log
abbrev pub with_call_in : List RegionValue → ℕ → ℕ → ℕ → List Effect → List RegionValue
with_call_in rs n c call es = if has_some es then with_log_in rs n c (with_more (log_in rs n c) (record { call = call; effects = es })) else rs

-- the first of client c's records that aren't digested, a number of them, are made of node n's inodes
abbrev pub with_digested_in : List RegionValue → ℕ → ℕ → ℕ → List RegionValue
with_digested_in rs n c count = with_region rs n (record (region_in rs n) {
  inodes = all_applied (region_in rs n).inodes (all_effects (take count (ahead (log_in rs n c))));
  logs = with_item (region_in rs n).logs c (digested_further (log_in rs n c) count);
})

-- records come in behind the last, in groups between these borders
abbrev pub with_records : (ℕ → Bool) → ReceivedLog → List LogRecord → ReceivedLog
with_records border l more = record {
  log = record { first = l.log.first; limit = l.log.limit; records = l.log.records ++ more; begins = l.log.begins ++ border_marks border (end l.log) more };
  digested = l.digested;
  at_home = l.at_home;
}

-- a node's log of a client has one record more, which begins a group where a border lies before it
abbrev pub with_next : (ℕ → Bool) → List RegionValue → (n c : ℕ) → LogRecord → List RegionValue
with_next border rs n c a = with_log_in rs n c (with_one (log_in rs n c) a (border (end (log_in rs n c).log)))

-- a log marks the borders of another as far as it has records
pub record HasGroupsOf (own l : NumberedLog) : Type 0 where
  pub marks : length l.begins ≡ length l.records
  pub borders : (k : ℕ) → k < end l → is_border own k ≡ true → is_border l k ≡ true

-- a node gets another's logs: no client lives there
abbrev pub away : ReceivedLog → ReceivedLog
away l = record { log = l.log; digested = l.digested; at_home = false }

-- a copy of a log, with the number up to which it is digested
abbrev pub copied : NumberedLog × ℕ → ReceivedLog
copied c = record { log = c.0; digested = c.1; at_home = false }

-- a node gets these behind its own
abbrev pub with_copies : RegionValue → List (NumberedLog × ℕ) → RegionValue
with_copies r copies = record r { logs = r.logs ++ map copied copies }

-- what is digested is a part of each, and each record can be made all or none
abbrev pub AreTaken : List (NumberedLog × ℕ) → Type 0
AreTaken [] = Unit {0}
AreTaken (c ∷ cs) = IsBegun (copied c) × AreWhole c.0.records × AreTaken cs

abbrev pub with_logs_of : List RegionValue → ℕ → ℕ → List RegionValue
with_logs_of rs n donor = with_region rs n (record (region_in rs n) { logs = map away (region_in rs donor).logs })

-- a node has no logs any more
abbrev pub without_logs : List RegionValue → ℕ → List RegionValue
without_logs rs n = with_region rs n (without_clients (region_in rs n))

-- ---- a client more

-- a log without records, of a client that lives here or elsewhere
abbrev pub begun_log : ℕ → Bool → ReceivedLog
begun_log limit at_home = record { log = empty_log limit; digested = 0; at_home = at_home }

-- of the nodes, which are numbered from n on, the full ones begin a log of the client
abbrev pub with_logs_begun : (full : ℕ → Bool) (limit home n : ℕ) → List RegionValue → List RegionValue
with_logs_begun full limit home n [] = []
with_logs_begun full limit home n (r ∷ rs) = (if full n then region_with_client r (begun_log limit (n == home)) else r) ∷ with_logs_begun full limit home (suc n) rs

-- the log of the client of the greatest number goes again
abbrev pub without_log_of : ℕ → RegionValue → RegionValue
without_log_of c r = if length r.logs == c then without_last_client r else r

abbrev pub with_logs_ended : List RegionValue → ℕ → List RegionValue
with_logs_ended rs c = map (without_log_of c) rs

-- ---- changes at all nodes that have a log of the client: those that aren't full have none

abbrev pub changed_in : ℕ → (ReceivedLog → ReceivedLog) → RegionValue → RegionValue
changed_in c f r = if nat_le c (length r.logs) then with_log r c (f (log_of r c)) else r

-- their logs of client c begin at a place
abbrev pub with_prefixes_dropped : List RegionValue → ℕ → ℕ → List RegionValue
with_prefixes_dropped rs c to = map (changed_in c (λ l. from_number l to)) rs

-- what lies before this place of the log is digested
pub record IsDigestedTo (l : ReceivedLog) (to : ℕ) : Type 0 where
  pub from_first : l.log.first ≤ to
  pub digested : to ≤ l.digested

abbrev pub AreDigested : List RegionValue → ℕ → ℕ → Type 0
AreDigested [] c to = Unit {0}
AreDigested (r ∷ rs) c to = (HasClient r c → IsDigestedTo (log_of r c) to) × AreDigested rs c to

-- their logs of client c end at a place
abbrev pub with_tails_cut : List RegionValue → ℕ → ℕ → List RegionValue
with_tails_cut rs c from = map (changed_in c (λ l. up_to_number l from)) rs

-- the client lives elsewhere, and nothing from this place of the log on is digested
pub record IsUndigestedFrom (l : ReceivedLog) (from : ℕ) : Type 0 where
  pub elsewhere : l.at_home ≡ false
  pub digested : l.digested ≤ from

abbrev pub AreUndigested : List RegionValue → ℕ → ℕ → Type 0
AreUndigested [] c from = Unit {0}
AreUndigested (r ∷ rs) c from = (HasClient r c → IsUndigestedFrom (log_of r c) from) × AreUndigested rs c from
