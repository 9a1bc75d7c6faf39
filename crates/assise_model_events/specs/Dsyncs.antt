-- A dsync of an optimistic client. While it is awaited, what only its home has and what wasn't to be replicated yet is cut into groups,
-- each group is coalesced, and all of the log is to be replicated.
-- Assise (OSDI 2020), section 3 (CC-NVM: in optimistic mode update logs are coalesced before they are replicated; dsync).
use Rattle.std.specs.Prelude.{◌≡◌, ◌≢◌, ℕ, ◌<◌, ◌==◌, max, not, List, [], ◌∷◌, filter, Some, None}
use Rattle.assise_names.specs.declared.call.Op.TheVariants.{Dsync}
use Rattle.assise_names.specs.declared.refusal.Refusal.{Refusal}
use Rattle.assise_names.specs.declared.refusal.Refusal.TheVariants.{OutOfMemory}
use Rattle.assise_names.specs.declared.reply.Reply.{Reply}
use Rattle.assise_record.specs.Groups.{groups_of}
use Rattle.assise_record.specs.LogRecord.{LogRecord}
use Rattle.assise_model_world.specs.Coalescing.{HasNone}
use Rattle.assise_model_world.specs.Regrouped.{Regroups}
use Rattle.assise_model_world.specs.World.{World, Full, end_of_log, received_by_all, records_between}
use Rattle.assise_model_events.specs.ClientEvents.{AnswersSync, KeepsMembers, call_of_client}
use Rattle.assise_model_events.specs.Events.{Answer, refused, replied, not_yet}
use Rattle.assise_model_events.specs.Faults.{client_fault}
use Rattle.assise_model_events.specs.Machine.{Machine, Adds}

-- the greatest value of some numbers, or 0
abbrev pub most_of : List ℕ → (ℕ → ℕ) → ℕ
most_of [] f = 0
most_of (n ∷ ns) f = max (f n) (most_of ns f)

-- these nodes without one of them
abbrev pub besides : ℕ → List ℕ → List ℕ
besides home ns = filter (λ n. not (n == home)) ns

-- the full nodes besides the client's home
abbrev pub full_elsewhere : World → ℕ → List ℕ
full_elsewhere w c = besides (w.home c) w.full

-- where a dsync begins to coalesce: what another full node has stays, and so does what is to be replicated already
abbrev pub coalesced_from : World → ℕ → ℕ
coalesced_from w c = max (w.goal c) (max (received_by_all w c) (most_of (full_elsewhere w c) (λ n. w.received n c)))

-- the groups of the records from there on
abbrev pub new_groups : World → ℕ → List (List LogRecord)
new_groups w c = groups_of (end_of_log w c) (records_between w c (coalesced_from w c) (end_of_log w c))

-- a full node lacks records of the client, whose last records become groups
pub record IsCoalescing (m : Machine) (c : ℕ) (m' : Machine) : Type 0 where
  pub lacking : received_by_all m.world c < end_of_log m.world c
  pub regroups : Regroups m.world c (coalesced_from m.world c) (new_groups m.world c) m'.world
  pub elsewhere : (n : ℕ) → Full m.world n → n ≢ m.world.home c → HasNone m.world n c (coalesced_from m.world c) m'.world
  pub leases : m'.leases ≡ m.leases
  pub adds : Adds m [] m'
  pub keeps : KeepsMembers m m'

-- it is answered once all full nodes have all of the client's records
pub data Coalescing (m : Machine) (c : ℕ) (a : Answer) (m' : Machine) : Type 0 where
  is_synced : (reply : Reply) → client_fault m c ≡ None → a ≡ replied reply → AnswersSync m (call_of_client m.world c Dsync reply) m' → Coalescing m c a m'
  is_coalesced : client_fault m c ≡ None → a ≡ not_yet → IsCoalescing m c m' → Coalescing m c a m'
  lacks_memory : client_fault m c ≡ None → a ≡ refused OutOfMemory → m' ≡ m → Coalescing m c a m'
  is_refused : (r : Refusal) → client_fault m c ≡ Some r → a ≡ refused r → m' ≡ m → Coalescing m c a m'
