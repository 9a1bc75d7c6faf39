-- Calls whose changes no other client has seen.
-- Assise, OSDI 2020, section 3 (CC-NVM, leases): what a client wrote is handed to others only once it is replicated and digested.
use Rattle.std.specs.Prelude.{◌≡◌, ◌≢◌, ℕ, ◌≤◌, false, List, [], ◌∷◌, ◌++◌}
use Rattle.assise_inode_table.specs.Effects.{contains, touched}
use Rattle.assise_inode_table.specs.Interaction.{Step}
use Rattle.assise_inode_table.specs.Traces.{NumberedCall, Pairs}

-- no inode of the second list is in the first
abbrev pub Clear : List ℕ → List ℕ → Type 0
Clear is [] = Unit {0}
Clear is (j ∷ js) = (contains is j ≡ false) × Clear is js

-- what a client's call numbered from its threshold on changed, no later call of another client visits or changes
abbrev pub Unseen : (ℕ → ℕ) → List (NumberedCall × Step) → Type 0
Unseen a xs = Pairs (λ x y. a x.0.client ≤ x.0.number → y.0.client ≢ x.0.client → Clear (touched x.1.effects) (y.1.visits ++ touched y.1.effects)) xs
