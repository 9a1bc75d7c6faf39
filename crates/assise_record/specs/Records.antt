-- Lists of log records.
-- Assise (OSDI 2020), section 3: a client's update log; Strata (SOSP 2017), section 3.
use Rattle.std.specs.Prelude.{ℕ, zero, suc, ◌<◌, Bool, true, false, List, [], ◌∷◌, ◌++◌, if◌then◌else◌}
use Rattle.assise_record.specs.declared.effect.Effect.{Effect}
use Rattle.assise_record.specs.LogRecord.{LogRecord}

abbrev pub has_some : List Effect → Bool
has_some [] = false
has_some (e ∷ es) = true

-- the record of a call, if the call has effects
abbrev pub record_of : ℕ → List Effect → List LogRecord
record_of call es = if has_some es then record { call = call; effects = es } ∷ [] else []

-- the effects of all records, in their order
abbrev pub all_effects : List LogRecord → List Effect
all_effects [] = []
all_effects (r ∷ rs) = r.effects ++ all_effects rs

-- the call of the record at a place, or `next` past the end
abbrev pub call_of : List LogRecord → ℕ → ℕ → ℕ
call_of [] k next = next
call_of (r ∷ rs) zero next = r.call
call_of (r ∷ rs) (suc k) next = call_of rs k next

-- the calls of the records ascend, and are below next
abbrev pub Ascending : List LogRecord → ℕ → Type 0
Ascending [] next = Unit {0}
Ascending (r ∷ rs) next = (r.call < call_of rs 0 next) × Ascending rs next
