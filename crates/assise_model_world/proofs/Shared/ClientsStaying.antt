-- Steps of clients other than calls: opening, goals, crashes, leases.
use Rattle.assise_model_world.proofs.Common.{◌≡◌, ◌≢◌, ℕ, suc, ◌⊎◌, true, false, ◌∙◌, arith, both_ways, cases_eq, or_cases, Mode, Opens, RaisesGoals, Crashes}
use Rattle.assise_model_world.proofs.Common.{is_for_writing, IsModeFree, Acquires, Releases, Rests, NoneFalls, Guarded, Compatible, WritesAreHeld}
use Rattle.assise_model_world.proofs.Common.{CallsInvariant, WorldInvariant, AreDropped, World}
use Rattle.assise_names.specs.declared.mode.Mode.TheVariants.{Read, Write}
use Rattle.assise_model_world.proofs.Shared.QuietSteps.{end-same, still_coherent, still_sound, still_falls}
use Rattle.assise_model_world.proofs.Shared.QuietSteps.{still_dropped, held-same, guarded-same, compatible-same}

-- ---- a client more

open_coherent : (w w' : World) (n : ℕ) → WorldInvariant w → Opens w n w' → CallsInvariant w'
open_coherent w w' n s e = grind (arith, still_coherent, guarded-same, compatible-same)

-- the new client wasn't there
new_dead : (w w' : World) (n : ℕ) → WorldInvariant w → Opens w n w' → w.lives (suc w.clients) ≡ false
new_dead w w' n s e = grind arith

pub open_sound : (w w' : World) (n : ℕ) → WorldInvariant w → Opens w n w' → WorldInvariant w'
open_sound w w' n s e = grind (arith, open_coherent, end-same, cases_eq, held-same, new_dead, both_ways)

pub open_falls : (w w' : World) (n : ℕ) → WorldInvariant w → Opens w n w' → NoneFalls w w'
open_falls w w' n s e = still_falls w w' s.coherent e.logs e.nodes

pub open_dropped : (w w' : World) (n : ℕ) → AreDropped w → Opens w n w' → AreDropped w'
open_dropped w w' n d e = still_dropped w w' e.logs e.nodes d

-- ---- goals are raised

pub raise_sound : (w w' : World) (k : ℕ → ℕ) → WorldInvariant w → RaisesGoals w k w' → WorldInvariant w'
raise_sound w w' k s e = grind (arith, still_sound, still_coherent, guarded-same, compatible-same, held-same)

pub raise_falls : (w w' : World) (k : ℕ → ℕ) → WorldInvariant w → RaisesGoals w k w' → NoneFalls w w'
raise_falls w w' k s e = still_falls w w' s.coherent e.logs e.nodes

-- ---- a crash

pub crash_sound : (w w' : World) (c : ℕ) → WorldInvariant w → Crashes w c w' → WorldInvariant w'
crash_sound w w' c s e = grind (arith, still_sound, still_coherent, guarded-same, compatible-same, cases_eq, held-same)

pub crash_falls : (w w' : World) (c : ℕ) → WorldInvariant w → Crashes w c w' → NoneFalls w w'
crash_falls w w' c s e = still_falls w w' s.coherent e.logs e.nodes

-- ---- a lease more

-- what the client has afterwards it had, or it got it and no other client stands against it
writes_after : (w w' : World) (c i d j : ℕ) (mode : Mode) → Acquires w c i mode w' → w'.writes d j ≡ true →
    (w.writes d j ≡ true) ⊎ ((d ≡ c) × (j ≡ i) × (is_for_writing mode ≡ true))
writes_after w w' c i d j mode e h = grind (arith, cases_eq, or_cases)

holds_after : (w w' : World) (c i d j : ℕ) (mode : Mode) → Acquires w c i mode w' → w'.holds d j ≡ true → (w.holds d j ≡ true) ⊎ ((d ≡ c) × (j ≡ i))
holds_after w w' c i d j mode e h = grind (arith, cases_eq)

-- where it is got for writing nobody else holds the inode
alone_writing : (w : World) (c i : ℕ) (mode : Mode) → IsModeFree w c i mode → is_for_writing mode ≡ true → (d : ℕ) → d ≢ c → w.holds d i ≡ false
alone_writing w c i Read free h = cc
alone_writing w c i Write free h = free

-- nobody else holds it for writing in any mode
no_writer : (w : World) (c i : ℕ) (mode : Mode) → WorldInvariant w → IsModeFree w c i mode → (d : ℕ) → d ≢ c → w.writes d i ≡ true → ⊥
unfolding WritesAreHeld
no_writer w c i Read s free d other h = both_ways (w.writes d i) (free d other) h
no_writer w c i Write s free d other h = both_ways (w.holds d i) (free d other) (s.held d i h)

compatible-acquire : (w w' : World) (c i : ℕ) (mode : Mode) → WorldInvariant w → Acquires w c i mode w' → Compatible w'
unfolding Compatible
compatible-acquire w w' c i mode s e a b j other writes holds = grind (arith, writes_after, holds_after, no_writer, both_ways, alone_writing)

-- what was held for writing stays so
writes_more : (w w' : World) (c i d j : ℕ) (mode : Mode) → Acquires w c i mode w' → w.writes d j ≡ true → w'.writes d j ≡ true
writes_more w w' c i d j mode e h = grind (arith, cases_eq)

guarded-acquire : (w w' : World) (c i : ℕ) (mode : Mode) → WorldInvariant w → Acquires w c i mode w' → Guarded w'
unfolding Guarded
guarded-acquire w w' c i mode s e d j h = writes_more w w' c i d j mode e (s.coherent.guarded d j (rw (e.logs.records d) at h))

held-acquire : (w w' : World) (c i : ℕ) (mode : Mode) → WorldInvariant w → Acquires w c i mode w' → WritesAreHeld w'
unfolding WritesAreHeld
held-acquire w w' c i mode s e d j h = grind (arith, cases_eq)

pub acquire_sound : (w w' : World) (c i : ℕ) (mode : Mode) → WorldInvariant w → Acquires w c i mode w' → WorldInvariant w'
acquire_sound w w' c i mode s e = grind (arith, still_sound, still_coherent, guarded-acquire, compatible-acquire, held-acquire)

pub acquire_falls : (w w' : World) (c i : ℕ) (mode : Mode) → WorldInvariant w → Acquires w c i mode w' → NoneFalls w w'
acquire_falls w w' c i mode s e = still_falls w w' s.coherent e.logs e.nodes

-- ---- a lease less

holds_less : (w w' : World) (c i d j : ℕ) → Releases w c i w' → w'.holds d j ≡ true → w'.holds d j ≡ w.holds d j
holds_less w w' c i d j e h = grind (arith, cases_eq, both_ways)

writes_less : (w w' : World) (c i d j : ℕ) → Releases w c i w' → w'.writes d j ≡ true → (w.writes d j ≡ true) × (w'.holds d j ≡ w.holds d j)
writes_less w w' c i d j e h = grind (arith, cases_eq, both_ways)

compatible-release : (w w' : World) (c i : ℕ) → WorldInvariant w → Releases w c i w' → Compatible w'
unfolding Compatible
compatible-release w w' c i s e a b j other writes holds = grind arith

guarded-release : (w w' : World) (c i : ℕ) → WorldInvariant w → Releases w c i w' → Guarded w'
unfolding Guarded
guarded-release w w' c i s e d j h = grind (arith, both_ways)

held-release : (w w' : World) (c i : ℕ) → WorldInvariant w → Releases w c i w' → WritesAreHeld w'
unfolding WritesAreHeld
held-release w w' c i s e d j h = (let t : (w.writes d j ≡ true) × (w'.holds d j ≡ w.holds d j) = writes_less w w' c i d j e h in t.1 ∙ s.held d j t.0)

pub release_sound : (w w' : World) (c i : ℕ) → WorldInvariant w → Releases w c i w' → WorldInvariant w'
release_sound w w' c i s e = grind (arith, still_sound, still_coherent, guarded-release, compatible-release, held-release)

pub release_falls : (w w' : World) (c i : ℕ) → WorldInvariant w → Releases w c i w' → NoneFalls w w'
release_falls w w' c i s e = still_falls w w' s.coherent e.logs e.nodes

-- ---- nodes that aren't full

pub rest_sound : (w w' : World) → WorldInvariant w → Rests w w' → WorldInvariant w'
rest_sound w w' s e = grind (arith, still_sound, still_coherent, guarded-same, compatible-same, held-same)

pub rest_falls : (w w' : World) → WorldInvariant w → Rests w w' → NoneFalls w w'
rest_falls w w' s e = still_falls w w' s.coherent e.logs e.nodes
