-- What each kind of revoker answers, as a cut of a log at an inode. Assise (OSDI 2020), section 3, on leases that are
-- revoked: how much the holder has to see replicated first is its own affair, as long as it covers the inode.
use Rattle.std.specs.Prelude.{◌≡◌, ℕ, ◌+◌, ◌*◌, ◌/◌, min, Option, Some, None}
use Rattle.assise_private_log.specs.NumberedLog.{NumberedLog, end}
use Rattle.assise_private_log.specs.Touches.{IsLastTouch}

-- one past the last record that touches the inode, or the log's first number where none does
abbrev pub past_last : NumberedLog → Option ℕ → ℕ
past_last l None = l.first
past_last l (Some number) = number + 1

-- the first multiple of 8 that isn't below a number
abbrev pub next_eighth : ℕ → ℕ
next_eighth n = 8 * ((n + 7) / 8)

-- the cut is one past the last touch of the inode
abbrev pub IsLeast : NumberedLog → ℕ → ℕ → Type 0
IsLeast l inode cut = (last : Option ℕ) × IsLastTouch l inode last × (cut ≡ past_last l last)

-- the cut is the first multiple of 8 that isn't below one past the last touch, or the log's end where that is less
abbrev pub IsEighths : NumberedLog → ℕ → ℕ → Type 0
IsEighths l inode cut = (last : Option ℕ) × IsLastTouch l inode last × (cut ≡ min (next_eighth (past_last l last)) (end l))
