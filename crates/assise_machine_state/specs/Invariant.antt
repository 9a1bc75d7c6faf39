-- What holds of the parts of the state, beside what the laws say of it.
-- Assise (OSDI 2020), section 3 (CC-NVM: a replica has the logs of all clients).
use Rattle.std.specs.Prelude.{◌≡◌, ℕ, ◌≤◌, Bool, true, false, not, ◌&&◌, ◌==◌, List, [], filter, length}
use Rattle.assise_names.specs.declared.mode.Mode.{Mode}
use Rattle.assise_names.specs.declared.limits.TheConstants.{MOST_NODES}
use Rattle.assise_history.specs.Legal.{durability_of}
use Rattle.assise_private_log.specs.NumberedLog.{NumberedLog, is_border}
use Rattle.assise_private_log.specs.Touches.{Covers}
use Rattle.assise_lease_table.specs.declared.lease.Asked.{Asked}
use Rattle.assise_lease_table.specs.Answers.{clients_of}
use Rattle.assise_lease_table.specs.Leases.{Among, holders, is_to_ask, lease_of}
use Rattle.assise_lease_tree.specs.Levels.{in_way, is_revoked}
use Rattle.assise_lease_tree.specs.TwoLevels.{TwoLevels}
use Rattle.assise_model_world.specs.Invariant.{WorldInvariant}
use Rattle.assise_model_events.specs.NodeEvents.{border_marks}
use Rattle.assise_machine_state.specs.ClientValues.{client_in}
use Rattle.assise_lease_table.specs.Cuts.{are_once, is_asked, is_unasked}
use Rattle.assise_machine_state.specs.NodeValues.{HasLog, log_in, region_in}
use Rattle.assise_machine_state.specs.Observed.{is_full_in, own_seen, world_of}
use Rattle.assise_machine_state.specs.Places.{IsNumber}
use Rattle.assise_machine_state.specs.StateValues.{StateValue, standings}

-- a log has marks where groups begin, between these borders
abbrev pub IsMarked : (ℕ → Bool) → NumberedLog → Type 0
IsMarked border l = l.begins ≡ border_marks border l.first l.records

pub record ShapeInvariant (s : StateValue) : Type 0 where
  -- each node stands somehow
  pub nodes : length s.nodes ≡ length (standings s)
  pub few_nodes : length s.nodes ≤ MOST_NODES
  -- a full node has a log of each client, and another has none
  pub logs : (n : ℕ) → is_full_in (standings s) n ≡ true → length (region_in s.nodes n).logs ≡ length s.clients
  pub no_logs : (n : ℕ) → is_full_in (standings s) n ≡ false → (region_in s.nodes n).logs ≡ []
  -- at a client's home its log is known as that of a client that lives there, until the node fails, and nowhere else
  pub at_home : (n c : ℕ) → (log_in s.nodes n c).at_home ≡ ((n == (client_in s.clients c).home) && not (client_in s.clients c).failed)
  -- all logs have one limit, 8 to 4,096 records
  pub limits : (n c : ℕ) → HasLog s.nodes n c → (log_in s.nodes n c).log.limit ≡ s.limit
  pub least_limit : 8 ≤ s.limit
  pub most_limit : s.limit ≤ 4096
  -- each node's log of a client has the groups of the client's own
  pub marked : (n c : ℕ) → IsMarked (is_border (own_seen s c).log) (log_in s.nodes n c).log
  -- each client is known as it was opened
  pub durabilities : (c : ℕ) → (client_in s.clients c).durability ≡ durability_of c s.history

-- what a digest and a failure go through the clients under: the invariant of the world, and the shape
pub record PartsInvariant (s : StateValue) : Type 0 where
  pub world : ∥ WorldInvariant (world_of s) ∥₁
  pub shape : ShapeInvariant s

-- the answers are those of the leases that are revoked, one of each
pub record CutsInvariant (s : StateValue) : Type 0 where
  pub once : are_once s.cuts ≡ true
  pub known : (c i : ℕ) → is_asked s.cuts c i ≡ true → IsNumber s.clients c
  pub noted : (c i : ℕ) → is_asked s.cuts c i ≡ is_revoked (lease_of (s.levels.clients i) c)

-- some clients answer for each lease that they hold and were not asked for, once
pub record AreLeft (s : StateValue) (who : ℕ → Bool) (asked : List Asked) : Type 0 where
  pub once : are_once asked ≡ true
  pub all : (c i : ℕ) → is_asked asked c i ≡ (who c && is_unasked (lease_of (s.levels.clients i) c))

-- those who stand in the way of client c were asked, each once, and answered cuts that cover in their own logs, at borders
pub record AreAnswers (s : StateValue) (c i : ℕ) (mode : Mode) (asked : List Asked) : Type 0 where
  pub who : clients_of asked ≡ holders (filter (is_to_ask (in_way s.levels.home (s.levels.nodes i) c (client_in s.clients c).home mode)) (s.levels.clients i))
  pub inodes : (a : Asked) → Among asked a → a.inode ≡ i
  pub covers : (a : Asked) → Among asked a → Covers (own_seen s a.client).log i a.cut
  pub borders : (a : Asked) → Among asked a → is_border (own_seen s a.client).log a.cut ≡ true

-- the same leases are revoked
abbrev pub SameRevoked : StateValue → TwoLevels → Type 0
SameRevoked s levels = (c i : ℕ) → is_revoked (lease_of (levels.clients i) c) ≡ is_revoked (lease_of (s.levels.clients i) c)
