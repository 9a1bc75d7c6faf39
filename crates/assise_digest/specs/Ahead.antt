-- Which of the records that aren't digested yet is the last that touches an inode.
-- Assise (OSDI 2020), section 3: a process reads its update log over the shared areas; Strata (SOSP 2017), section 3.
use Rattle.std.specs.Prelude.{ℕ, ◌+◌, if◌then◌else◌, List, [], ◌∷◌, Option, Some, None}
use Rattle.std.specs.Option.{option_or}
use Rattle.assise_record.specs.LogRecord.{LogRecord}
use Rattle.assise_inode_table.specs.Effects.{contains, touched}

-- of records numbered from n on the number of the last that touches the inode, if one does
abbrev pub last_touch : ℕ → List LogRecord → ℕ → Option ℕ
last_touch n [] i = None
last_touch n (r ∷ rs) i = option_or (last_touch (n + 1) rs i) (if contains (touched r.effects) i then Some n else None)
