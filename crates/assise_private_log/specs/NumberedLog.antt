-- A log of updates: the records of one client, numbered without a gap from a first number on, at most as many as a limit.
-- Assise (OSDI 2020), section 3: a client's update log, which is appended to at its end and cut from its prefix as it is
-- digested, and whose records are replicated and digested in groups (CC-NVM); Strata (SOSP 2017), section 3.
use Rattle.std.specs.Prelude.{◌≡◌, ℕ, ◌+◌, ◌-◌, ◌^◌, ◌<◌, ◌≤◌, nat_lt, nat_le, max, min, Bool, true, ◌||◌, if◌then◌else◌, List, [], ◌∷◌, ◌++◌, length, take, drop, Option, None}
use Rattle.std.specs.List.{slice_get, slice_index_or}
use Rattle.assise_record.specs.LogRecord.{LogRecord}

pub record NumberedLog : Type 0 where
  pub first : ℕ
  pub limit : ℕ
  pub records : List LogRecord
  -- of each record, whether a group begins with it
  pub begins : List Bool

-- the number behind the last record
abbrev pub end : NumberedLog → ℕ
end l = l.first + length l.records

-- no group has records on both sides of this number: one begins there, or nothing is before it, or nothing behind
abbrev pub is_border : NumberedLog → ℕ → Bool
is_border l number = nat_le number l.first || slice_index_or l.begins (number - l.first) true

-- the numbers fit 64 bits, the records fit the limit, which is 8 to 4,096, and a group has at most 64 of them
pub record IsNumberedLog (l : NumberedLog) : Type 0 where
  pub numbers : end l < 2 ^ 64
  pub room : length l.records ≤ l.limit
  pub least : 8 ≤ l.limit
  pub most : l.limit ≤ 4096
  pub marks : length l.begins ≡ length l.records
  pub groups : (number : ℕ) → (border : ℕ) × (number < border) × (border ≤ number + 64) × (is_border l border ≡ true)

-- without records, from number 0 on
abbrev pub empty_log : ℕ → NumberedLog
empty_log limit = record { first = 0; limit = limit; records = []; begins = [] }

-- with one more record, behind the last: it begins a group, or is one more of the last one
abbrev pub with_grouped : NumberedLog → LogRecord → Bool → NumberedLog
with_grouped l r begins = record { first = l.first; limit = l.limit; records = l.records ++ r ∷ []; begins = l.begins ++ begins ∷ [] }

-- with one more record, which is a group by itself
abbrev pub with_record : NumberedLog → LogRecord → NumberedLog
with_record l r = with_grouped l r true

-- the last group has fewer than 64 records
abbrev pub HasOpenGroup : NumberedLog → Type 0
HasOpenGroup l = (border : ℕ) × (border < end l) × (end l < border + 64) × (is_border l border ≡ true)

-- the record of a number, if it is there
abbrev pub record_at : NumberedLog → ℕ → Option LogRecord
record_at l number = if nat_lt number l.first then None else slice_get l.records (number - l.first)

-- the records from a number on: all of them, where the number lies before the first
abbrev pub records_from : NumberedLog → ℕ → List LogRecord
records_from l from = drop (from - l.first) l.records

-- without the records below a number of the log, which is the first number then
abbrev pub without_prefix : NumberedLog → ℕ → NumberedLog
without_prefix l to = record { first = to; limit = l.limit; records = records_from l to; begins = drop (to - l.first) l.begins }

-- the number of the log that is the nearest to a number: itself, the first, or that behind the last record
abbrev pub nearest : NumberedLog → ℕ → ℕ
nearest l number = max l.first (min number (end l))

-- without the records from a number on
abbrev pub without_tail : NumberedLog → ℕ → NumberedLog
without_tail l from = record { first = l.first; limit = l.limit; records = take (from - l.first) l.records; begins = take (from - l.first) l.begins }
