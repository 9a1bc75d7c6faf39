-- How a node that failed comes back.
-- Assise (OSDI 2020), section 3 (recovery: the inodes written in each epoch).
use Rattle.std.specs.Prelude.{◌≡◌, ℕ, zero, suc, ◌<◌, ⊤, Result, Err}
use Rattle.assise_names.specs.declared.refusal.Refusal.{Refusal}
use Rattle.assise_model_events.specs.Events.{back, began, join, left, refill, refused}
use Rattle.assise_model_events.specs.Machine.{Machine}
use Rattle.assise_machine_failures.specs.Answers.{joining_answer}
use Rattle.assise_rounds.specs.Traces.{IsEvent, Nothing, Then, Told}

-- ---- a node is filled

-- node n gets an inode, and may lack some still
pub record FillsOne (n : ℕ) (m : Machine) (es : Told) (m' : Machine) : Type 0 where
  pub stale : ℕ
  pub some : 0 < stale
  pub event : IsEvent (refill n) (left stale) m es m'

-- so often, one after another
abbrev pub Fills : ℕ → ℕ → Machine → Told → Machine → Type 0
Fills n zero m es m' = Nothing m es m'
Fills n (suc k) m es m' = Then (Fills n k) (FillsOne n) m es m'

-- node n, which may lack `stale` inodes, gets as many, or fewer where it lacks none before
pub data IsFilled (stale n : ℕ) (m : Machine) (es : Told) (m' : Machine) : Type 0 where
  lacks_none : (k : ℕ) → k < stale → Then (Fills n k) (IsEvent (refill n) (left 0)) m es m' → IsFilled stale n m es m'
  gets_all : Fills n stale m es m' → IsFilled stale n m es m'

-- one of `stale` inodes is refused
pub record StopsFilling (stale n : ℕ) (e : Refusal) (m : Machine) (es : Told) (m' : Machine) : Type 0 where
  pub before : ℕ
  pub few : before < stale
  pub stops : Then (Fills n before) (IsEvent (refill n) (refused e)) m es m'

-- ---- a node comes back

-- node n, which may lack `stale` inodes, is filled, and joins, with this result; where an inode is refused nothing follows
pub data FillsUp (stale n : ℕ) (r : Result ⊤ Refusal) (m : Machine) (es : Told) (m' : Machine) : Type 0 where
  is_filled : Then (IsFilled stale n) (IsEvent (join n) (joining_answer r)) m es m' → FillsUp stale n r m es m'
  is_stopped : (e : Refusal) → r ≡ Err e → StopsFilling stale n e m es m' → FillsUp stale n r m es m'

-- node n begins to come back, and is filled up with what it may lack; where its beginning is refused nothing follows
pub data ComesBack (n : ℕ) (r : Result ⊤ Refusal) (m : Machine) (es : Told) (m' : Machine) : Type 0 where
  begins : (stale : ℕ) → Then (IsEvent (back n) (began stale)) (FillsUp stale n r) m es m' → ComesBack n r m es m'
  is_refused : (e : Refusal) → r ≡ Err e → IsEvent (back n) (refused e) m es m' → ComesBack n r m es m'
