-- What nodes do, and what happens to them.
-- Assise (OSDI 2020), section 3 (CC-NVM: replication, digests, fail-over, node recovery); Strata (SOSP 2017), section 3.
use Rattle.std.specs.Prelude.{◌≡◌, ◌≢◌, ◌⊎◌, ℕ, ◌-◌, ◌≤◌, min, true, false, not, ◌&&◌, ◌==◌, ◌++◌, if◌then◌else◌, take, drop, filter}
use Rattle.assise_record.specs.Records.{all_effects}
use Rattle.assise_inode_table.specs.Effects.{value_after}
use Rattle.assise_inode_table.specs.Traces.{below}
use Rattle.assise_model_world.specs.World.{World, Full, least_of, end_of_log, digested_by_all, received_by_all, records_between, call_at, undigested_below}
use Rattle.assise_model_world.specs.Staying.{SameLogs, SameClients, SameGoals, KeepsLeases, SameNode, SameNodes}

-- ---- logs come to nodes, and go

-- full node n receives client c's records below place k
pub record Delivers (w : World) (n c k : ℕ) (w' : World) : Type 0 where
  pub full_node : Full w n
  pub from : w.received n c ≤ k
  pub to : k ≤ end_of_log w c
  pub border_to : w.border c k ≡ true
  pub logs : SameLogs w w'
  pub clients : SameClients w w'
  pub goals : SameGoals w w'
  pub leases : KeepsLeases w w'
  pub full : w'.full ≡ w.full
  pub log_here : w'.log n c ≡ w.log n c ++ records_between w c (w.received n c) k
  pub log_else : (m d : ℕ) → Full w m → (m ≡ n → d ≡ c → ⊥) → w'.log m d ≡ w.log m d
  pub received_here : w'.received n c ≡ k
  pub received_else : (m d : ℕ) → Full w m → (m ≡ n → d ≡ c → ⊥) → w'.received m d ≡ w.received m d
  pub digested : (m d : ℕ) → Full w m → w'.digested m d ≡ w.digested m d
  pub area : (m i : ℕ) → Full w m → w'.area m i ≡ w.area m i

-- full node n applies the records of client c below place k that it has not digested; all full nodes have them
pub record Digests (w : World) (n c k : ℕ) (w' : World) : Type 0 where
  pub full_node : Full w n
  pub from : w.digested n c ≤ k
  pub to : k ≤ received_by_all w c
  pub border_to : w.border c k ≡ true
  pub logs : SameLogs w w'
  pub clients : SameClients w w'
  pub goals : SameGoals w w'
  pub leases : KeepsLeases w w'
  pub full : w'.full ≡ w.full
  pub log : (m d : ℕ) → Full w m → w'.log m d ≡ w.log m d
  pub received : (m d : ℕ) → Full w m → w'.received m d ≡ w.received m d
  pub digested_here : w'.digested n c ≡ k
  pub digested_else : (m d : ℕ) → Full w m → (m ≡ n → d ≡ c → ⊥) → w'.digested m d ≡ w.digested m d
  pub area_here : (i : ℕ) → w'.area n i ≡ value_after i (w.area n i) (all_effects (undigested_below w n c k))
  pub area_else : (m i : ℕ) → Full w m → m ≢ n → w'.area m i ≡ w.area m i

-- prefixes that all full nodes have digested are dropped, at all of them: client c's log begins at place f c then
pub record Drops (w : World) (f : ℕ → ℕ) (w' : World) : Type 0 where
  pub low : (c : ℕ) → w.first c ≤ f c
  pub high : (c : ℕ) → f c ≤ digested_by_all w c
  pub border_at : (c : ℕ) → w.border c (f c) ≡ true
  pub calls : w'.calls ≡ w.calls
  pub records : (c : ℕ) → w'.records c ≡ drop (f c - w.first c) (w.records c)
  pub first : (c : ℕ) → w'.first c ≡ f c
  pub border : (c k : ℕ) → f c ≤ k → w'.border c k ≡ w.border c k
  pub next : (c : ℕ) → w'.next c ≡ w.next c
  pub made : (c : ℕ) → w'.made c ≡ w.made c
  pub clients : SameClients w w'
  pub goals : SameGoals w w'
  pub leases : KeepsLeases w w'
  pub full : w'.full ≡ w.full
  pub log : (n c : ℕ) → Full w n → w'.log n c ≡ drop (f c - w.first c) (w.log n c)
  pub received : (n c : ℕ) → Full w n → w'.received n c ≡ w.received n c
  pub digested : (n c : ℕ) → Full w n → w'.digested n c ≡ w.digested n c
  pub area : (n i : ℕ) → Full w n → w'.area n i ≡ w.area n i

-- ---- nodes fail, and come back

-- the place up to which a client's log is kept when node n fails: of a client that lives there what all other full nodes have,
-- and of the others all
unfoldable pub kept_at_failure : World → ℕ → ℕ → ℕ
kept_at_failure w n c = if w.lives c && (w.home c == n) then least_of (filter (λ m. not (m == n)) w.full) (λ m. w.received m c) (end_of_log w c) else end_of_log w c

-- full node n fails, and others are left: logs are cut at these places, and the calls from there on are lost
pub record Fails (w : World) (n : ℕ) (w' : World) : Type 0 where
  pub full_node : Full w n
  pub survivor : (m : ℕ) × ((m ≢ n) × Full w m)
  pub gone : Full w' n → ⊥
  pub only : (m : ℕ) → Full w' m → Full w m
  pub others : (m : ℕ) → Full w m → m ≢ n → Full w' m
  pub calls : w'.calls ≡ filter (below (λ c. call_at w c (kept_at_failure w n c))) w.calls
  pub records : (c : ℕ) → w'.records c ≡ records_between w c (w.first c) (kept_at_failure w n c)
  pub first : (c : ℕ) → w'.first c ≡ w.first c
  pub border : (c k : ℕ) → k ≤ kept_at_failure w n c → w'.border c k ≡ w.border c k
  pub next : (c : ℕ) → w'.next c ≡ w.next c
  pub made : (c : ℕ) → w'.made c ≡ w.made c
  pub goals : (c : ℕ) → w'.goal c ≡ min (w.goal c) (kept_at_failure w n c)
  pub clients : w'.clients ≡ w.clients
  pub home : (c : ℕ) → w'.home c ≡ w.home c
  pub lives_there : (c : ℕ) → w.home c ≡ n → w'.lives c ≡ false
  pub lives_else : (c : ℕ) → w.home c ≢ n → w'.lives c ≡ w.lives c
  pub crashed : (c : ℕ) → w'.crashed c ≡ w.crashed c
  pub leases : KeepsLeases w w'
  -- what the nodes have that are left
  pub log : (m c : ℕ) → Full w' m → w'.log m c ≡ take (kept_at_failure w n c - w.first c) (w.log m c)
  pub received : (m c : ℕ) → Full w' m → w'.received m c ≡ min (w.received m c) (kept_at_failure w n c)
  pub digested : (m c : ℕ) → Full w' m → w'.digested m c ≡ w.digested m c
  pub area : (m i : ℕ) → Full w' m → w'.area m i ≡ w.area m i

-- node n, which isn't full, gets all that a full node has, and is full
pub record Joins (w : World) (n donor : ℕ) (w' : World) : Type 0 where
  pub donor_full : Full w donor
  pub absent : Full w n → ⊥
  pub joined : Full w' n
  pub stay : (m : ℕ) → Full w m → Full w' m
  pub only : (m : ℕ) → Full w' m → (m ≡ n) ⊎ Full w m
  pub logs : SameLogs w w'
  pub clients : SameClients w w'
  pub goals : SameGoals w w'
  pub leases : KeepsLeases w w'
  pub area_here : (i : ℕ) → w'.area n i ≡ w.area donor i
  pub log_here : (c : ℕ) → w'.log n c ≡ w.log donor c
  pub received_here : (c : ℕ) → w'.received n c ≡ w.received donor c
  pub digested_here : (c : ℕ) → w'.digested n c ≡ w.digested donor c
  pub else_same : (m : ℕ) → Full w m → SameNode w w' m

-- all stays but what nodes have that aren't full
pub record Rests (w w' : World) : Type 0 where
  pub logs : SameLogs w w'
  pub clients : SameClients w w'
  pub goals : SameGoals w w'
  pub leases : KeepsLeases w w'
  pub nodes : SameNodes w w'
