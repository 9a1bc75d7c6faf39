-- A client's last records give way to others with the same net effect.
-- Assise (OSDI 2020), section 3 (CC-NVM: in optimistic mode update logs are coalesced before they are replicated).
use Rattle.std.specs.Prelude.{◌≡◌, ◌≢◌, ◌⊎◌, ℕ, ◌-◌, ◌≤◌, true, List, ◌++◌, take}
use Rattle.assise_record.specs.LogRecord.{LogRecord}
use Rattle.assise_record.specs.Records.{all_effects, call_of, Ascending}
use Rattle.assise_inode_table.specs.Effects.{touched, contains, SameNetEffect}
use Rattle.assise_model_world.specs.World.{World, Full, end_of_log, received_by_all, call_at, records_between}
use Rattle.assise_model_world.specs.Staying.{SameClients, KeepsLeases}

-- node n has none of client c's records from place s on, and what it has stays
pub record HasNone (w : World) (n c s : ℕ) (w' : World) : Type 0 where
  pub before : w.received n c ≤ s
  pub received : w'.received n c ≡ w.received n c
  pub log : w'.log n c ≡ w.log n c

-- node n gets all of client c's log
pub record GetsAll (n c : ℕ) (w' : World) : Type 0 where
  pub received : w'.received n c ≡ end_of_log w' c
  pub log : w'.log n c ≡ w'.records c

-- client c's records from s on become the new ones: each full node has none of the old ones and gets none, or gets the whole, as the
-- client's home does. All of its log is to be replicated then
pub record GetsTail (w : World) (c s : ℕ) (new : List LogRecord) (w' : World) : Type 0 where
  pub lives : w.lives c ≡ true
  pub low : received_by_all w c ≤ s
  pub high : s ≤ end_of_log w c
  pub records_own : w'.records c ≡ take (s - w.first c) (w.records c) ++ new
  pub records_else : (d : ℕ) → d ≢ c → w'.records d ≡ w.records d
  pub border_old : (k : ℕ) → k ≤ s → w'.border c k ≡ w.border c k
  pub border_else : (d k : ℕ) → d ≢ c → w'.border d k ≡ w.border d k
  pub here : (n : ℕ) → Full w n → HasNone w n c s w' ⊎ GetsAll n c w'
  pub at_home : GetsAll (w.home c) c w'
  pub received_else : (n d : ℕ) → Full w n → d ≢ c → w'.received n d ≡ w.received n d
  pub log_else : (n d : ℕ) → Full w n → d ≢ c → w'.log n d ≡ w.log n d
  pub full : w'.full ≡ w.full
  pub area : (n i : ℕ) → Full w n → w'.area n i ≡ w.area n i
  pub digested : (n d : ℕ) → Full w n → w'.digested n d ≡ w.digested n d
  pub calls : w'.calls ≡ w.calls
  pub first : (d : ℕ) → w'.first d ≡ w.first d
  pub next : (d : ℕ) → w'.next d ≡ w.next d
  pub made : (d : ℕ) → w'.made d ≡ w.made d
  pub clients : SameClients w w'
  pub goal_here : w'.goal c ≡ end_of_log w' c
  pub goal_else : (d : ℕ) → d ≢ c → w'.goal d ≡ w.goal d
  pub leases : KeepsLeases w w'

-- client c's records from a border s on become the new ones, which are no more than those were. Each border of them is one of what
-- was there: between each two borders the records have the net effect of those that were between those places, and touch what they
-- touched, and the call at a border is the one that was there
pub record Coalesces (w : World) (c s : ℕ) (new : List LogRecord) (was : ℕ → ℕ) (w' : World) : Type 0 where
  pub tail : GetsTail w c s new w'
  pub at_border : w.border c s ≡ true
  -- the places that the new borders were
  pub was_here : was s ≡ s
  pub was_end : was (end_of_log w' c) ≡ end_of_log w c
  pub was_ascends : (j k : ℕ) → j ≤ k → was j ≤ was k
  pub was_border : (k : ℕ) → s ≤ k → k ≤ end_of_log w' c → w'.border c k ≡ true → w.border c (was k) ≡ true
  pub same_call : (k : ℕ) → s ≤ k → k ≤ end_of_log w' c → w'.border c k ≡ true → call_at w' c k ≡ call_at w c (was k)
  pub net : (j k : ℕ) → w'.border c j ≡ true → w'.border c k ≡ true → s ≤ j → j ≤ k → k ≤ end_of_log w' c →
      SameNetEffect (all_effects (records_between w' c j k)) (all_effects (records_between w c (was j) (was k)))
  pub touch : (i j k : ℕ) → w'.border c j ≡ true → w'.border c k ≡ true → s ≤ j → j ≤ k → k ≤ end_of_log w' c →
      contains (touched (all_effects (records_between w' c j k))) i ≡ contains (touched (all_effects (records_between w c (was j) (was k)))) i
  pub begins : call_of new 0 (w.next c) ≡ call_at w c s
  pub ascending : Ascending new (w.next c)
  pub no_more : end_of_log w' c ≤ end_of_log w c
  pub border_end : w'.border c (end_of_log w' c) ≡ true
