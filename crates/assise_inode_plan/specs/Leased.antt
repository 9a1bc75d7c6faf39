-- What a call needs leased.
-- Assise, OSDI 2020, section 3 (CC-NVM, leases): leases on files and directories, for reading by several, for writing by one.
use Rattle.std.specs.Prelude.{◌≡◌, ℕ, Bool, true, if◌then◌else◌, List, [], ◌∷◌, ◌++◌, map, Option, Some, None}
use Rattle.assise_names.specs.declared.mode.Mode.{Mode}
use Rattle.assise_names.specs.declared.mode.Mode.TheVariants.{Read, Write}
use Rattle.assise_inode_table.specs.Effects.{touched}
use Rattle.assise_inode_table.specs.Interaction.{Step}

-- which inodes a view leases, and how
abbrev pub LeaseView : Type 0
LeaseView = ℕ → Mode → Bool

abbrev pub for_reading : List ℕ → List (ℕ × Mode)
for_reading is = map (λ i. (i, Read)) is

abbrev pub for_writing : List ℕ → List (ℕ × Mode)
for_writing is = map (λ i. (i, Write)) is

-- the visited inodes in the order of the visits, then the changed ones in the order of the effects
abbrev pub wants : Step → List (ℕ × Mode)
wants s = for_reading s.visits ++ for_writing (touched s.effects)

-- the first of them that isn't leased so
abbrev pub first_missing : LeaseView → List (ℕ × Mode) → Option (ℕ × Mode)
first_missing leased [] = None
first_missing leased (w ∷ ws) = if leased w.0 w.1 then first_missing leased ws else Some w

-- each of them is leased so
abbrev pub AreLeased : LeaseView → List (ℕ × Mode) → Type 0
AreLeased leased [] = Unit {0}
AreLeased leased (w ∷ ws) = (leased w.0 w.1 ≡ true) × AreLeased leased ws

-- the first inode that a call visits is leased: the plan notes it, and asks for memory from there on
abbrev pub NotesAVisit : LeaseView → List ℕ → Type 0
NotesAVisit leased [] = ⊥
NotesAVisit leased (i ∷ is) = leased i Read ≡ true
