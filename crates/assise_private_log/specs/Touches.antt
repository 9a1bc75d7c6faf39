-- Which records of a log touch an inode: those of which an effect changes it (POSIX.1-2017, write(), ftruncate(), link(),
-- unlink()). What a lease holds back is told from them: Assise (OSDI 2020), section 3, on leases that are revoked.
use Rattle.std.specs.Prelude.{◌≡◌, ℕ, ◌+◌, ◌≤◌, ◌==◌, Bool, true, false, Option, Some, None}
use Rattle.std.specs.List.{list_any}
use Rattle.assise_record.specs.LogRecord.{LogRecord}
use Rattle.assise_record.specs.Touched.{touched_by}
use Rattle.assise_private_log.specs.NumberedLog.{NumberedLog, end, record_at, records_from}

-- one of its effects changes the inode
abbrev pub record_touches : LogRecord → ℕ → Bool
record_touches r inode = list_any (λ e. touched_by e == inode) r.effects

-- where there is a record
abbrev pub found_touches : Option LogRecord → ℕ → Bool
found_touches None inode = false
found_touches (Some r) inode = record_touches r inode

-- there is a record of the number, and it touches the inode
abbrev pub touches : NumberedLog → ℕ → ℕ → Bool
touches l number inode = found_touches (record_at l number) inode

-- a record from a number on touches the inode
abbrev pub touches_after : NumberedLog → ℕ → ℕ → Bool
touches_after l inode from = list_any (λ r. record_touches r inode) (records_from l from)

-- no record from a number on touches the inode
abbrev pub UntouchedFrom : NumberedLog → ℕ → ℕ → Type 0
UntouchedFrom l inode from = (n : ℕ) → from ≤ n → touches l n inode ≡ false

-- the greatest number of a record that touches the inode, or that there is none
abbrev pub IsLastTouch : NumberedLog → ℕ → Option ℕ → Type 0
IsLastTouch l inode None = UntouchedFrom l inode 0
IsLastTouch l inode (Some number) = (touches l number inode ≡ true) × UntouchedFrom l inode (number + 1)

-- a cut of a log at an inode: a number between its first and its end, from which on no record touches the inode. Once what
-- lies before it is everywhere, the inode can be handed over: Assise (OSDI 2020), section 3, on leases that are revoked.
pub record Covers (l : NumberedLog) (inode cut : ℕ) : Type 0 where
  pub from_first : l.first ≤ cut
  pub to_end : cut ≤ end l
  pub untouched : UntouchedFrom l inode cut
