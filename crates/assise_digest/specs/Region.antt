-- A node's region: its inodes, and for each client the log that it received, some of which is digested into the inodes.
-- Assise (OSDI 2020), section 3: a replica's update logs and shared areas; Strata (SOSP 2017), section 3: digests.
use Rattle.std.specs.Prelude.{◌≡◌, ◌≢◌, ℕ, ◌+◌, ◌-◌, ◌<◌, ◌≤◌, Bool, true, false, List, [], ◌∷◌, ◌++◌, length, min, take, slice_index_or, slice_set, Option}
use Rattle.std.specs.FinMap as map
use Rattle.assise_record.specs.declared.effect.Effect.{Effect}
use Rattle.assise_record.specs.LogRecord.{LogRecord}
use Rattle.assise_record.specs.Records.{all_effects}
use Rattle.assise_private_log.specs.Borders.{whole_count}
use Rattle.assise_private_log.specs.Groups.{regrouped}
use Rattle.assise_private_log.specs.NumberedLog.{NumberedLog, empty_log, end, is_border, records_from, with_grouped, without_prefix, without_tail}
use Rattle.assise_inode_table.specs.Contents.{Content, InodeMap, Values}
use Rattle.assise_inode_table.specs.Effects.{all_applied, contains, touched, value_after, with_value}
use Rattle.assise_inode_table.specs.Whole.{CanBeMadeWhole}

-- the log of a client as far as the node received it, the number up to which it is digested, and whether the client
-- lives on this node
pub record ReceivedLog : Type 0 where
  pub log : NumberedLog
  pub digested : ℕ
  pub at_home : Bool

-- the log of client c stands at place c - 1; and how many inodes may be hot
pub record RegionValue : Type 0 where
  pub inodes : InodeMap
  pub logs : List ReceivedLog
  pub capacity : ℕ

abbrev pub no_log : ReceivedLog
no_log = record { log = empty_log 0; digested = 0; at_home = false }

abbrev pub log_at : RegionValue → ℕ → ReceivedLog
log_at r place = slice_index_or r.logs place no_log

abbrev pub log_of : RegionValue → ℕ → ReceivedLog
log_of r client = log_at r (client - 1)

-- the region has a log of this client
pub record HasClient (r : RegionValue) (client : ℕ) : Type 0 where
  pub some : 0 < client
  pub there : client ≤ length r.logs

abbrev pub with_log : RegionValue → ℕ → ReceivedLog → RegionValue
with_log r client l = record r { logs = slice_set r.logs (client - 1) l }

-- one client more, one less, or none
abbrev pub region_with_client : RegionValue → ReceivedLog → RegionValue
region_with_client r l = record r { logs = r.logs ++ l ∷ [] }

abbrev pub without_last_client : RegionValue → RegionValue
without_last_client r = record r { logs = take (length r.logs - 1) r.logs }

abbrev pub without_clients : RegionValue → RegionValue
without_clients r = record r { logs = [] }

-- another value of one inode
abbrev pub with_inode : RegionValue → ℕ → Option Content → RegionValue
with_inode r i v = record r { inodes = with_value r.inodes i v }

-- another number of inodes may be hot
abbrev pub with_hot_capacity : RegionValue → ℕ → RegionValue
with_hot_capacity r capacity = record r { capacity = capacity }

-- what is digested is a part of what was received, of which only digested records went from the front
pub record IsBegun (l : ReceivedLog) : Type 0 where
  pub from_first : l.log.first ≤ l.digested
  pub to_end : l.digested ≤ end l.log

-- the records that aren't digested
abbrev pub ahead : ReceivedLog → List LogRecord
ahead l = records_from l.log l.digested

-- the effects of the first of them
abbrev pub first_effects : List LogRecord → List Effect
first_effects [] = []
first_effects (r ∷ rs) = r.effects

abbrev pub next_effects : ReceivedLog → List Effect
next_effects l = first_effects (ahead l)

-- those of them below a number
abbrev pub ahead_below : ReceivedLog → ℕ → List LogRecord
ahead_below l to = take (to - l.digested) (ahead l)

-- `count` of the records that aren't digested are the next group, or what is left of it
pub record IsNextGroup (l : ReceivedLog) (count : ℕ) : Type 0 where
  pub some : 0 < count
  pub within : count ≤ length (ahead l)
  pub border : is_border l.log (l.digested + count) ≡ true
  pub least : (k : ℕ) → 0 < k → k < count → is_border l.log (l.digested + k) ≡ false

-- how many of those below number `to` are whole groups, `most` records at most
abbrev pub whole_ahead : ReceivedLog → (to most : ℕ) → ℕ
whole_ahead l to most = whole_count l.log l.digested (min (length (ahead_below l to)) most)

-- there is room for one more record, or there is none
abbrev pub LogHasRoom : ReceivedLog → Type 0
LogHasRoom l = length l.log.records < l.log.limit

abbrev pub IsLogFull : ReceivedLog → Type 0
IsLogFull l = length l.log.records ≡ l.log.limit

-- each record can be made all or none
abbrev pub AreWhole : List LogRecord → Type 0
AreWhole [] = Unit {0}
AreWhole (r ∷ rs) = CanBeMadeWhole r.effects × AreWhole rs

-- ---- changes of one log

-- one more record begins a group, or is one more of the last one
abbrev pub with_one : ReceivedLog → LogRecord → Bool → ReceivedLog
with_one l r begins = record { log = with_grouped l.log r begins; digested = l.digested; at_home = l.at_home }

abbrev pub with_more : ReceivedLog → LogRecord → ReceivedLog
with_more l r = with_one l r true

abbrev pub from_number : ReceivedLog → ℕ → ReceivedLog
from_number l to = record { log = without_prefix l.log to; digested = l.digested; at_home = l.at_home }

abbrev pub up_to_number : ReceivedLog → ℕ → ReceivedLog
up_to_number l from = record { log = without_tail l.log from; digested = l.digested; at_home = l.at_home }

abbrev pub digested_further : ReceivedLog → ℕ → ReceivedLog
digested_further l count = record { log = l.log; digested = l.digested + count; at_home = l.at_home }

-- the records from a number on in groups, without what is overridden in them
abbrev pub regrouped_from : ReceivedLog → ℕ → ReceivedLog
regrouped_from l from = record { log = regrouped l.log from; digested = l.digested; at_home = l.at_home }

-- the first records that aren't digested, a number of them, are made of the inodes
abbrev pub digested_by : RegionValue → ℕ → ℕ → RegionValue
digested_by r client count = record r {
  inodes = all_applied r.inodes (all_effects (take count (ahead (log_of r client))));
  logs = slice_set r.logs (client - 1) (digested_further (log_of r client) count);
}

-- ---- what is read

-- an inode as the client reads it: after all its records
abbrev pub read_by : RegionValue → ℕ → ℕ → Option Content
read_by r client i = value_after i (map.get r.inodes i) (all_effects (ahead (log_of r client)))

-- the effects of the records that aren't digested and are replicated, client by client; each client has a number
-- below which its records are
abbrev pub all_ahead : List ReceivedLog → List ℕ → List Effect
all_ahead [] acked = []
all_ahead (l ∷ ls) [] = []
all_ahead (l ∷ ls) (a ∷ acked) = all_effects (ahead_below l a) ++ all_ahead ls acked

-- the inodes that this region alone gives: its own, after those records
abbrev pub alone : RegionValue → List ℕ → Values
alone r acked i = value_after i (map.get r.inodes i) (all_ahead r.logs acked)

-- no inode is touched by records of two clients that aren't digested
abbrev pub TouchDisjoint : RegionValue → Type 0
TouchDisjoint r = (j k : ℕ) → j ≢ k → (i : ℕ) → contains (touched (all_effects (ahead (log_at r j)))) i ≡ true → contains (touched (all_effects (ahead (log_at r k)))) i ≡ false

-- no record that isn't digested, of a client that lives on this node, touches the inode
abbrev pub IsQuiet : RegionValue → ℕ → Type 0
IsQuiet r i = (k : ℕ) → (log_at r k).at_home ≡ true → contains (touched (all_effects (ahead (log_at r k)))) i ≡ false

-- the replicated numbers aren't below the digested ones
abbrev pub AreNotBelow : List ReceivedLog → List ℕ → Type 0
AreNotBelow ls acked = (k : ℕ) → k < length ls → (slice_index_or ls k no_log).digested ≤ slice_index_or acked k 0
