-- The openings of a history, and those that lines tell of.
-- Assise (OSDI 2020), section 3.
use Rattle.std.specs.Prelude.{◌≡◌, ℕ, List, [], ◌∷◌, ◌++◌}
use Rattle.assise_names.specs.declared.durability.Durability.{Durability}
use Rattle.assise_history.specs.Entries.{EntryValue, opens, calls, crashes, fails, returns}
use Rattle.assise_keeper.specs.Clients.{openings_of}
use Rattle.assise_fault_script.specs.declared.command.Command.{Command}
use Rattle.assise_fault_script.specs.declared.command.Command.TheVariants.{Open}
use Rattle.assise_console.specs.declared.response.Response.{Response}
use Rattle.assise_console.specs.declared.response.Response.TheVariants.{Client}
use Rattle.assise_threads.specs.Said.{Said}

-- these openings came meanwhile, and no others
abbrev pub OpensJust : List EntryValue → List EntryValue → List EntryValue → Type 0
OpensJust told old new = openings_of new ≡ openings_of old ++ told

-- none came
abbrev pub OpensNone : List EntryValue → List EntryValue → Type 0
OpensNone old new = OpensJust [] old new

-- the opening that the answer `client C` tells of
abbrev pub opened_by : Response → ℕ → Durability → List EntryValue
opened_by (Client c) n u = opens c n u ∷ []
opened_by a n u = []

-- the opening that a command's answer tells of, if it tells of one
abbrev pub opening_in : Command → Response → List EntryValue
opening_in (Open n kind u) a = opened_by a n u
opening_in command a = []

-- the openings that the lines tell of, in order
abbrev pub openings_said : List Said → List EntryValue
openings_said [] = []
openings_said (s ∷ ss) = opening_in s.command.command s.answer ++ openings_said ss

-- ---- clients with what they have seen

abbrev pub Sights : Type 0
Sights = List (ℕ × List EntryValue)

-- these clients, and behind them one that was opened, if one was, who has seen this then
abbrev pub with_opened : Sights → List EntryValue → List EntryValue → Sights
with_opened us h [] = us
with_opened us h (opens c n u ∷ es) = us ++ (c, h) ∷ []
with_opened us h (calls x ∷ es) = us
with_opened us h (crashes c ∷ es) = us
with_opened us h (fails n losses ∷ es) = us
with_opened us h (returns n ∷ es) = us
