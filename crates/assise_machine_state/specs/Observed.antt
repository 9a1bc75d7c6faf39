-- The state as the laws observe it.
-- Assise (OSDI 2020), section 3 (CC-NVM: update logs, replication, digests, leases, recovery).
use Rattle.std.specs.Prelude.{ℕ, Bool, false, not, if◌then◌else◌, List, filter, length, Option, Some, None}
use Rattle.assise_record.specs.Records.{all_effects}
use Rattle.assise_inode_table.specs.Contents.{InodeMap, values}
use Rattle.assise_inode_table.specs.Effects.{all_applied}
use Rattle.assise_private_log.specs.NumberedLog.{end, is_border}
use Rattle.assise_digest.specs.Region.{ReceivedLog, ahead}
use Rattle.assise_manager.specs.Membership.{lowest_full}
use Rattle.assise_manager.specs.Standings.{Standing, is_full, standing_of}
use Rattle.assise_model_world.specs.World.{World}
use Rattle.assise_model_leases.specs.Leases.{client_lease, is_held, is_written}
use Rattle.assise_model_history.specs.Numbered.{kept_numbered}
use Rattle.assise_model_history.specs.State.{down_from}
use Rattle.assise_model_events.specs.Machine.{Machine}
use Rattle.assise_machine_state.specs.ClientValues.{ClientValue, client_in}
use Rattle.assise_machine_state.specs.NodeValues.{hot_capacities, log_in, region_in}
use Rattle.assise_machine_state.specs.StateValues.{StateValue, leases_of, standings}

-- ---- nodes

abbrev pub stands_full : Option Standing → Bool
stands_full None = false
stands_full (Some s) = is_full s

-- the node of this number is full
unfoldable pub is_full_in : List Standing → ℕ → Bool
is_full_in nodes n = stands_full (standing_of nodes n)

-- the numbers of the full nodes
unfoldable pub full_in : List Standing → List ℕ
full_in nodes = filter (is_full_in nodes) (down_from (length nodes))

-- ---- clients

-- the node whose log of the client is the client's own: its home, and once that failed a full one, since all of them have the same
abbrev pub own_node : List Standing → ClientValue → ℕ
own_node nodes c = if c.failed then lowest_full nodes else c.home

unfoldable pub own_seen : StateValue → ℕ → ReceivedLog
own_seen s c = log_in s.nodes (own_node (standings s) (client_in s.clients c)) c

-- ---- what is read

-- the inodes as a client reads them at its home: after its records that aren't digested there
abbrev pub inodes_read : StateValue → ℕ → InodeMap
inodes_read s c =
    let home : ℕ = (client_in s.clients c).home in
    all_applied (region_in s.nodes home).inodes (all_effects (ahead (log_in s.nodes home c)))

-- ---- all of it

unfoldable pub world_of : StateValue → World
world_of s = record {
  full = full_in (standings s);
  area = λ n. values (region_in s.nodes n).inodes;
  log = λ n c. (log_in s.nodes n c).log.records;
  received = λ n c. end (log_in s.nodes n c).log;
  digested = λ n c. (log_in s.nodes n c).digested;
  clients = length s.clients;
  home = λ c. (client_in s.clients c).home;
  lives = λ c. not (client_in s.clients c).failed;
  crashed = λ c. (client_in s.clients c).crashed;
  records = λ c. (own_seen s c).log.records;
  first = λ c. (own_seen s c).log.first;
  border = λ c k. is_border (own_seen s c).log k;
  goal = λ c. (client_in s.clients c).goal;
  next = λ c. (client_in s.clients c).next;
  made = λ c. (client_in s.clients c).made;
  holds = λ c i. is_held (client_lease (leases_of s) c i);
  writes = λ c i. is_written (client_lease (leases_of s) c i);
  calls = kept_numbered s.history;
}

unfoldable pub observed : StateValue → Machine
observed s = record { limit = s.limit; hot = hot_capacities s.nodes; history = s.history; world = world_of s; leases = leases_of s; members = s.members }
