-- What an entry of the code shows.
use Rattle.assise_history.specs.Entries.{EntryValue, opens, calls, crashes, fails, returns}
use Rattle.assise_history.specs.declared.entry.EntryKind.{EntryKind}
use Rattle.assise_history.specs.declared.entry.EntryKind.TheVariants.{Open, Call, Crash, Fail, Return}

abbrev pub event_of : EntryKind → EntryValue
event_of (Open c n u) = opens c n u
event_of (Call x) = calls x
event_of (Crash c) = crashes c
event_of (Fail n losses) = fails n losses.items
event_of (Return n) = returns n
