-- What a step leaves as it is.
use Rattle.std.specs.Prelude.{◌≡◌, ℕ}
use Rattle.assise_model_world.specs.World.{World, Full}

-- the calls that are kept, and each client's own log and numbers
pub record SameLogs (w w' : World) : Type 0 where
  pub calls : w'.calls ≡ w.calls
  pub records : (c : ℕ) → w'.records c ≡ w.records c
  pub first : (c : ℕ) → w'.first c ≡ w.first c
  pub next : (c : ℕ) → w'.next c ≡ w.next c
  pub border : (c k : ℕ) → w'.border c k ≡ w.border c k
  pub made : (c : ℕ) → w'.made c ≡ w.made c

-- who the clients are, where they live, and which of them crashed
pub record SameClients (w w' : World) : Type 0 where
  pub clients : w'.clients ≡ w.clients
  pub home : (c : ℕ) → w'.home c ≡ w.home c
  pub lives : (c : ℕ) → w'.lives c ≡ w.lives c
  pub crashed : (c : ℕ) → w'.crashed c ≡ w.crashed c

abbrev pub SameGoals : World → World → Type 0
SameGoals w w' = (c : ℕ) → w'.goal c ≡ w.goal c

pub record KeepsLeases (w w' : World) : Type 0 where
  pub holds : (c i : ℕ) → w'.holds c i ≡ w.holds c i
  pub writes : (c i : ℕ) → w'.writes c i ≡ w.writes c i

-- one node's area, and what it has of each client
pub record SameNode (w w' : World) (n : ℕ) : Type 0 where
  pub area : (i : ℕ) → w'.area n i ≡ w.area n i
  pub log : (c : ℕ) → w'.log n c ≡ w.log n c
  pub received : (c : ℕ) → w'.received n c ≡ w.received n c
  pub digested : (c : ℕ) → w'.digested n c ≡ w.digested n c

-- which nodes are full, and all that those have
pub record SameNodes (w w' : World) : Type 0 where
  pub full : w'.full ≡ w.full
  pub same : (n : ℕ) → Full w n → SameNode w w' n
