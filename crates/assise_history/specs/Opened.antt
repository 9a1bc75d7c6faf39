-- Clients are opened once.
use Rattle.std.specs.Prelude.{ℕ, ◌≤◌, Bool, false, ◌==◌, List, filter, length}
use Rattle.assise_history.specs.Entries.{EntryValue, opens, calls, crashes, fails, returns}

abbrev pub is_opening_of : ℕ → EntryValue → Bool
is_opening_of c (opens d n u) = d == c
is_opening_of c (calls x) = false
is_opening_of c (crashes d) = false
is_opening_of c (fails n losses) = false
is_opening_of c (returns n) = false

-- no client is opened twice
abbrev pub OpensOnce : List EntryValue → Type 0
OpensOnce h = (c : ℕ) → length (filter (is_opening_of c) h) ≤ 1
