-- The calls that a book makes.
use Rattle.std.specs.Prelude.{◌≡◌, ℕ, List, ◌++◌}
use Rattle.assise_names.specs.declared.call.Op.TheVariants.{Fsync}
use Rattle.assise_names.specs.declared.reply.Reply.TheVariants.{Done}
use Rattle.assise_history.specs.Entries.{EntryValue, calls}

-- the client's call with this number
abbrev pub made : ℕ → ℕ → EntryValue
made c k = calls (record { client = c; number = k; op = Fsync; reply = Done })

-- the last entries are these
abbrev pub EndsWith : List EntryValue → List EntryValue → Type 0
EndsWith h last = (before : List EntryValue) × (h ≡ before ++ last)
