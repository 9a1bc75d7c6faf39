-- What keeps the shape of the state.
use Rattle.assise_machine_state.proofs.Common.{◌≡◌, ℕ, true, false, not, ◌&&◌, ◌==◌, [], length, map, arith, cases_Bool, length-map, nil_from_length}
use Rattle.assise_machine_state.proofs.Common.{durability_of, InodeMap, is_border, ReceivedLog, Membership, client_in, HasLog, changed_in, log_in, region_in}
use Rattle.assise_machine_state.proofs.Common.{is_full_in, own_node, own_seen, IsNumber, IsMarked, ShapeInvariant, StateValue, standings}
use Rattle.assise_machine_state.proofs.Shared.Fullness.{has_log}
use Rattle.assise_machine_state.proofs.Shared.LogChanges.{count_seen, log_changed, log_same, logs_count, part_seen}
use Rattle.assise_machine_state.proofs.Shared.ItemSeen.{length-with}

-- ---- limits

-- a full node's log of a client has the limit
pub limit_seen : (s : StateValue) (n c : ℕ) → ShapeInvariant s → is_full_in (standings s) n ≡ true → IsNumber s.clients c →
    (log_in s.nodes n c).log.limit ≡ s.limit
limit_seen s n c shape f client = shape.limits n c (has_log s n c shape f client)

-- so have all logs, where only full nodes have some, of clients
pub limits_all : (s : StateValue) → ((n : ℕ) → is_full_in (standings s) n ≡ true → length (region_in s.nodes n).logs ≡ length s.clients) →
    ((n : ℕ) → is_full_in (standings s) n ≡ false → (region_in s.nodes n).logs ≡ []) →
    ((n c : ℕ) → is_full_in (standings s) n ≡ true → IsNumber s.clients c → (log_in s.nodes n c).log.limit ≡ s.limit) →
    (n c : ℕ) → HasLog s.nodes n c → (log_in s.nodes n c).log.limit ≡ s.limit
limits_all s logs no_logs seen n c has = grind (arith, cases_Bool)

-- ---- homes

-- a node knows whether a client lives there
abbrev pub KnowsHome : StateValue → ℕ → ℕ → Type 0
KnowsHome s n c = (log_in s.nodes n c).at_home ≡ ((n == (client_in s.clients c).home) && not (client_in s.clients c).failed)

-- ---- groups

-- each node's log of a client has the groups of the client's own
abbrev pub AreMarked : StateValue → Type 0
AreMarked s = (n c : ℕ) → IsMarked (is_border (own_seen s c).log) (log_in s.nodes n c).log

-- the client's own among them
pub own_marked : (s : StateValue) → AreMarked s → (c : ℕ) → IsMarked (is_border (own_seen s c).log) (own_seen s c).log
unfolding own_seen
own_marked s all c = all (own_node (standings s) (client_in s.clients c)) c

-- so it is where the two logs stay
pub kept_marks : (own own' l l' : ReceivedLog) → own' ≡ own → l' ≡ l → IsMarked (is_border own.log) l.log → IsMarked (is_border own'.log) l'.log
kept_marks own own' l l' own_stays stays marked = rw (own_stays, stays) marked

-- and where all do
pub still_marked : (s t : StateValue) → ((n c : ℕ) → (log_in t.nodes n c).log ≡ (log_in s.nodes n c).log) →
    ((c : ℕ) → (own_seen t c).log ≡ (own_seen s c).log) → AreMarked s → AreMarked t
still_marked s t logs own all n c = grind arith

-- ---- the same nodes are full and have as many logs, and limits and homes stay

pub record KeepsShape (s t : StateValue) : Type 0 where
  pub nodes : length t.nodes ≡ length s.nodes
  pub members : length (standings t) ≡ length (standings s)
  pub full : (n : ℕ) → is_full_in (standings t) n ≡ is_full_in (standings s) n
  pub logs : (n : ℕ) → length (region_in t.nodes n).logs ≡ length (region_in s.nodes n).logs
  pub clients : length t.clients ≡ length s.clients
  pub home : (c : ℕ) → (client_in t.clients c).home ≡ (client_in s.clients c).home
  pub failed : (c : ℕ) → (client_in t.clients c).failed ≡ (client_in s.clients c).failed
  pub limit : t.limit ≡ s.limit
  pub limits : (n c : ℕ) → (log_in t.nodes n c).log.limit ≡ (log_in s.nodes n c).log.limit
  pub at_home : (n c : ℕ) → (log_in t.nodes n c).at_home ≡ (log_in s.nodes n c).at_home
  pub durability : (c : ℕ) → (client_in t.clients c).durability ≡ (client_in s.clients c).durability
  pub marked : AreMarked s → AreMarked t
  pub opened : (c : ℕ) → durability_of c t.history ≡ durability_of c s.history

pub shaped_as : (s t : StateValue) → ShapeInvariant s → KeepsShape s t → ShapeInvariant t
shaped_as s t shape same = grind (arith, nil_from_length, limits_all, limit_seen)

-- one node's log of a client changes, with the node's inodes
pub shaped_log : (s : StateValue) (members : Membership) (n c : ℕ) (inodes : InodeMap) (l : ReceivedLog) → ShapeInvariant s
    → l.log.limit ≡ (log_in s.nodes n c).log.limit → l.at_home ≡ (log_in s.nodes n c).at_home
    → (AreMarked s → AreMarked (record s { nodes = log_changed s.nodes n c inodes l; members = members }))
    → length members.nodes ≡ length (standings s) → ((k : ℕ) → is_full_in members.nodes k ≡ is_full_in (standings s) k)
    → ShapeInvariant (record s { nodes = log_changed s.nodes n c inodes l; members = members })
shaped_log s members n c inodes l shape limit at_home marked count full =
    shaped_as s (record s { nodes = log_changed s.nodes n c inodes l; members = members }) shape
    (search (length-with, logs_count, log_same s.nodes n c inodes l (λ x. x.log.limit), log_same s.nodes n c inodes l (λ x. x.at_home)) parts 3)

-- a client's logs change at all nodes
pub shaped_all : (s : StateValue) (c : ℕ) (g : ReceivedLog → ReceivedLog) → ShapeInvariant s
    → ((l : ReceivedLog) → (g l).log.limit ≡ l.log.limit) → ((l : ReceivedLog) → (g l).at_home ≡ l.at_home)
    → (AreMarked s → AreMarked (record s { nodes = map (changed_in c g) s.nodes }))
    → ShapeInvariant (record s { nodes = map (changed_in c g) s.nodes })
shaped_all s c g shape limit at_home marked =
    shaped_as s (record s { nodes = map (changed_in c g) s.nodes }) shape
    (search (length-map, count_seen, part_seen c g (λ x. x.log.limit), part_seen c g (λ x. x.at_home)) parts 3)
