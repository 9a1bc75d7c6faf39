-- The value of an inode after some of the calls of a trace.
-- Strata, SOSP 2017, section 3 (digests of update logs): logs are digested apart from one another, later than their calls.
use Rattle.std.specs.Prelude.{◌≡◌, ℕ, Bool, true, false, ◌==◌, List, [], ◌∷◌, if◌then◌else◌, Option}
use Rattle.assise_inode_table.specs.Contents.{Content}
use Rattle.assise_inode_table.specs.Effects.{contains, touched, value_after}
use Rattle.assise_inode_table.specs.Interaction.{Step}
use Rattle.assise_inode_table.specs.Traces.{NumberedCall}

-- after the steps whose calls pass the test
abbrev pub late_value : (NumberedCall → Bool) → ℕ → Option Content → List (NumberedCall × Step) → Option Content
late_value passes i old [] = old
late_value passes i old (x ∷ xs) = late_value passes i (if passes x.0 then value_after i old x.1.effects else old) xs

-- no step whose call passes touches the inode
abbrev pub Quiet : (NumberedCall → Bool) → ℕ → List (NumberedCall × Step) → Type 0
Quiet passes i [] = Unit {0}
Quiet passes i (x ∷ xs) = (passes x.0 ≡ true → contains (touched x.1.effects) i ≡ false) × Quiet passes i xs

-- no call passes both tests, and where a late step touches the inode, no early one after it does
abbrev pub NoneBetween : (NumberedCall → Bool) → (NumberedCall → Bool) → ℕ → List (NumberedCall × Step) → Type 0
NoneBetween early late i [] = Unit {0}
NoneBetween early late i (x ∷ xs) =
    (late x.0 ≡ true → (early x.0 ≡ false) × (contains (touched x.1.effects) i ≡ true → Quiet early i xs)) × NoneBetween early late i xs

-- the thresholds with one client's put at k
abbrev pub raised_at : (ℕ → ℕ) → ℕ → ℕ → ℕ → ℕ
raised_at a c k d = if d == c then k else a d
