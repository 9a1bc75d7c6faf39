-- A frame as clauses see it: the records of one client, numbered from `first` on, as a log of updates is replicated.
-- Assise (OSDI 2020), section 3.
use Rattle.std.specs.Prelude.{◌≡◌, ℕ, ◌+◌, ◌-◌, ◌^◌, ◌<◌, ◌≤◌, Bool, true, false, ◌==◌, get_or, List, [], length, Option, Some, None}
use Rattle.std.specs.Global.{Vec}
use Rattle.assise_record.specs.LogRecord.{LogRecord}

pub record LogFrame : Type 0 where
  pub version : ℕ
  pub epoch : ℕ
  pub client : ℕ
  pub first : ℕ
  pub records : List LogRecord
  -- of each record of version 2, whether it is the last of its group; in version 1 nothing
  pub last : List Bool

-- whether the records of a version have marks
abbrev pub is_marked : ℕ → Bool
is_marked version = version == 2

-- where the version has marks each record has one, and the last record ends its group; else there are none
abbrev pub HasMarks : Bool → List LogRecord → List Bool → Type 0
HasMarks false records last = last ≡ []
HasMarks true records last = (length last ≡ length records) × (get_or last (length records - 1) true ≡ true)

-- the version is 1 or 2, the client isn't 0, there are 1 to 64 records, and the numbers fit their fields: the one behind
-- the last record too
pub record HasRanges (f : LogFrame) : Type 0 where
  pub some_version : 1 ≤ f.version
  pub known_version : f.version ≤ 2
  pub epoch : f.epoch < 2 ^ 64
  pub client : 0 < f.client
  pub client_fits : f.client < 2 ^ 32
  pub some : 0 < length f.records
  pub few : length f.records ≤ 64
  pub numbers : f.first + length f.records ≤ 18446744073709551615
  pub marks : HasMarks (is_marked f.version) f.records f.last

-- ---- how the code keeps marks: none, or a vector of them

abbrev pub version_of : Option (Vec Bool) → ℕ
version_of None = 1
version_of (Some marks) = 2

abbrev pub marks_of : Option (Vec Bool) → List Bool
marks_of None = []
marks_of (Some marks) = marks.items
