-- What clients do, and what happens to their leases.
-- Assise (OSDI 2020), section 3 (CC-NVM: update logs, fsync, leases, process crash).
use Rattle.std.specs.Prelude.{◌≡◌, ◌≢◌, ℕ, suc, ◌≤◌, max, Bool, true, false, [], ◌∷◌, ◌++◌, ◌||◌, if◌then◌else◌}
use Rattle.assise_names.specs.declared.mode.Mode.{Mode}
use Rattle.assise_names.specs.declared.mode.Mode.TheVariants.{Read, Write}
use Rattle.assise_record.specs.Records.{all_effects, record_of}
use Rattle.assise_inode_table.specs.Effects.{touched, contains}
use Rattle.assise_inode_table.specs.Numbers.{inode_number}
use Rattle.assise_inode_table.specs.Traces.{NumberedCall}
use Rattle.assise_model_world.specs.World.{World, Full, end_of_log, step_at_home, call_makes_inode}
use Rattle.assise_model_world.specs.Staying.{SameLogs, SameClients, SameGoals, KeepsLeases, SameNodes}

-- ---- clients

-- a client more is opened on full node n
pub record Opens (w : World) (n : ℕ) (w' : World) : Type 0 where
  pub full_node : Full w n
  pub logs : SameLogs w w'
  pub nodes : SameNodes w w'
  pub leases : KeepsLeases w w'
  pub clients : w'.clients ≡ suc w.clients
  pub home_new : w'.home (suc w.clients) ≡ n
  pub lives_new : w'.lives (suc w.clients) ≡ true
  pub crashed_new : w'.crashed (suc w.clients) ≡ false
  pub goal_new : w'.goal (suc w.clients) ≡ 0
  pub home_else : (c : ℕ) → c ≢ suc w.clients → w'.home c ≡ w.home c
  pub lives_else : (c : ℕ) → c ≢ suc w.clients → w'.lives c ≡ w.lives c
  pub crashed_else : (c : ℕ) → c ≢ suc w.clients → w'.crashed c ≡ w.crashed c
  pub goal_else : (c : ℕ) → c ≢ suc w.clients → w'.goal c ≡ w.goal c

-- a client makes its next call at its home, over what it reads there, and holds what the call visits and changes. The call's
-- record goes to the end of its log, there and nowhere else
pub record MakesCall (w : World) (x : NumberedCall) (w' : World) : Type 0 where
  pub lives : w.lives x.client ≡ true
  pub running : w.crashed x.client ≡ false
  pub number : x.number ≡ w.next x.client
  pub fresh : x.fresh ≡ inode_number x.client (w.made x.client)
  pub reply : x.reply ≡ (step_at_home w x).reply
  pub held : (i : ℕ) → contains ((step_at_home w x).visits ++ touched (step_at_home w x).effects) i ≡ true → w.holds x.client i ≡ true
  pub written : (i : ℕ) → contains (touched (step_at_home w x).effects) i ≡ true → w.writes x.client i ≡ true
  -- its own log and numbers
  pub calls : w'.calls ≡ w.calls ++ x ∷ []
  pub records_own : w'.records x.client ≡ w.records x.client ++ record_of x.number (step_at_home w x).effects
  pub records_else : (c : ℕ) → c ≢ x.client → w'.records c ≡ w.records c
  pub first : (c : ℕ) → w'.first c ≡ w.first c
  pub border_old : (c k : ℕ) → k ≤ end_of_log w c → w'.border c k ≡ w.border c k
  pub border_new : w'.border x.client (end_of_log w' x.client) ≡ true
  pub next_own : w'.next x.client ≡ suc x.number
  pub next_else : (c : ℕ) → c ≢ x.client → w'.next c ≡ w.next c
  pub made_own : w'.made x.client ≡ (if call_makes_inode w x then suc (w.made x.client) else w.made x.client)
  pub made_else : (c : ℕ) → c ≢ x.client → w'.made c ≡ w.made c
  pub made_few : w'.made x.client ≤ 1048576
  -- its home has the record, and no other node gets it
  pub log_home : w'.log (w.home x.client) x.client ≡ w.log (w.home x.client) x.client ++ record_of x.number (step_at_home w x).effects
  pub log_else : (n c : ℕ) → Full w n → (n ≡ w.home x.client → c ≡ x.client → ⊥) → w'.log n c ≡ w.log n c
  pub received_home : w'.received (w.home x.client) x.client ≡ end_of_log w' x.client
  pub received_else : (n c : ℕ) → Full w n → (n ≡ w.home x.client → c ≡ x.client → ⊥) → w'.received n c ≡ w.received n c
  pub digested : (n c : ℕ) → Full w n → w'.digested n c ≡ w.digested n c
  pub area : (n i : ℕ) → Full w n → w'.area n i ≡ w.area n i
  pub full : w'.full ≡ w.full
  pub clients : SameClients w w'
  pub goals : SameGoals w w'
  pub leases : KeepsLeases w w'

-- each client's log is to be replicated up to a place k of it, or further where it was: by an fsync, or where clients are asked
-- for leases
pub record RaisesGoals (w : World) (k : ℕ → ℕ) (w' : World) : Type 0 where
  pub there : (c : ℕ) → k c ≤ end_of_log w c
  pub logs : SameLogs w w'
  pub clients : SameClients w w'
  pub nodes : SameNodes w w'
  pub leases : KeepsLeases w w'
  pub goals : (c : ℕ) → w'.goal c ≡ max (w.goal c) (k c)

-- client c crashes: all of its log is to be replicated
pub record Crashes (w : World) (c : ℕ) (w' : World) : Type 0 where
  pub lives : w.lives c ≡ true
  pub running : w.crashed c ≡ false
  pub logs : SameLogs w w'
  pub nodes : SameNodes w w'
  pub leases : KeepsLeases w w'
  pub clients : w'.clients ≡ w.clients
  pub home : (d : ℕ) → w'.home d ≡ w.home d
  pub lives_same : (d : ℕ) → w'.lives d ≡ w.lives d
  pub crashed_here : w'.crashed c ≡ true
  pub crashed_else : (d : ℕ) → d ≢ c → w'.crashed d ≡ w.crashed d
  pub goal_here : w'.goal c ≡ end_of_log w c
  pub goal_else : (d : ℕ) → d ≢ c → w'.goal d ≡ w.goal d

-- ---- leases

abbrev pub is_for_writing : Mode → Bool
is_for_writing Read = false
is_for_writing Write = true

-- no other client stands against this mode
abbrev pub IsModeFree : World → ℕ → ℕ → Mode → Type 0
IsModeFree w c i Read = (d : ℕ) → d ≢ c → w.writes d i ≡ false
IsModeFree w c i Write = (d : ℕ) → d ≢ c → w.holds d i ≡ false

-- client c gets a lease of inode i; one that it has for writing stays so
pub record Acquires (w : World) (c i : ℕ) (mode : Mode) (w' : World) : Type 0 where
  pub free : IsModeFree w c i mode
  pub logs : SameLogs w w'
  pub clients : SameClients w w'
  pub goals : SameGoals w w'
  pub nodes : SameNodes w w'
  pub holds_here : w'.holds c i ≡ true
  pub writes_here : w'.writes c i ≡ (w.writes c i || is_for_writing mode)
  pub holds_else : (d j : ℕ) → (d ≡ c → j ≡ i → ⊥) → w'.holds d j ≡ w.holds d j
  pub writes_else : (d j : ℕ) → (d ≡ c → j ≡ i → ⊥) → w'.writes d j ≡ w.writes d j

-- client c gives up inode i, which none of its records touches
pub record Releases (w : World) (c i : ℕ) (w' : World) : Type 0 where
  pub untouched : contains (touched (all_effects (w.records c))) i ≡ false
  pub logs : SameLogs w w'
  pub clients : SameClients w w'
  pub goals : SameGoals w w'
  pub nodes : SameNodes w w'
  pub holds_here : w'.holds c i ≡ false
  pub writes_here : w'.writes c i ≡ false
  pub holds_else : (d j : ℕ) → (d ≡ c → j ≡ i → ⊥) → w'.holds d j ≡ w.holds d j
  pub writes_else : (d j : ℕ) → (d ≡ c → j ≡ i → ⊥) → w'.writes d j ≡ w.writes d j
