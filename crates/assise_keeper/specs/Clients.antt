-- Whose entries a history has, and what a pass may add to it.
use Rattle.std.specs.Prelude.{◌≡◌, ℕ, List, [], ◌∷◌, ◌++◌, filter, length, drop, Option, Some, None}
use Rattle.assise_history.specs.Entries.{EntryValue, opens, calls, crashes, fails, returns}
use Rattle.assise_history.specs.Legal.{is_call_of, is_opening}
use Rattle.assise_history.specs.Opened.{is_opening_of}
use Rattle.assise_keeper.specs.declared.view.Opens.{Opens}
use Rattle.assise_keeper.specs.declared.view.Opens.TheVariants.{Never, Alone, AmongOthers}

-- how often the client was opened
abbrev pub openings : ℕ → List EntryValue → ℕ
openings c h = length (filter (is_opening_of c) h)

-- the openings of a history, in order
abbrev pub openings_of : List EntryValue → List EntryValue
openings_of h = filter is_opening h

-- the client's calls, in order
abbrev pub calls_by : ℕ → List EntryValue → List EntryValue
calls_by c h = filter (is_call_of c) h

-- the same of a pass, which may have no client
abbrev pub calls_of : Option ℕ → List EntryValue → List EntryValue
calls_of None h = []
calls_of (Some c) h = calls_by c h

-- the history begins with what was seen
abbrev pub Extends : List EntryValue → List EntryValue → Type 0
Extends h prefix = (more : List EntryValue) × (h ≡ prefix ++ more)

-- ---- what a pass may add: calls of its client; where it has none, the opening of one, if it has the right; and what is nobody's

-- a pass with this right may open clients
abbrev pub MayOpenClients : Opens → Type 0
MayOpenClients Never = ⊥
MayOpenClients Alone = Unit {0}
MayOpenClients AmongOthers = Unit {0}

-- the client of a pass that added the entry
abbrev pub client_with : Option ℕ → EntryValue → Option ℕ
client_with c (opens d n u) = Some d
client_with c (calls x) = c
client_with c (crashes d) = c
client_with c (fails n losses) = c
client_with c (returns n) = c

-- the client of a pass that added the entries
abbrev pub client_after : Option ℕ → List EntryValue → Option ℕ
client_after c [] = c
client_after c (e ∷ es) = client_after (client_with c e) es

-- a pass with this client, or none, and this right may add the entry
abbrev pub MayAdd : Option ℕ → Opens → EntryValue → Type 0
MayAdd c o (opens d n u) = (c ≡ None) × MayOpenClients o
MayAdd c o (calls x) = c ≡ Some x.client
MayAdd c o (crashes d) = Unit {0}
MayAdd c o (fails n losses) = Unit {0}
MayAdd c o (returns n) = Unit {0}

-- it may add the entries, one after another
abbrev pub MayAddAll : Option ℕ → Opens → List EntryValue → Type 0
MayAddAll c o [] = Unit {0}
MayAddAll c o (e ∷ es) = MayAdd c o e × MayAddAll (client_with c e) o es

-- the history goes on from the one that was taken, by entries that the pass may add
abbrev pub MayGive : Option ℕ → Opens → List EntryValue → List EntryValue → Type 0
MayGive c o taken h = (more : List EntryValue) × (h ≡ taken ++ more) × MayAddAll c o more

-- what a history has behind the one that was taken
abbrev pub added : List EntryValue → List EntryValue → List EntryValue
added taken h = drop (length taken) h

-- ---- what a call makes of what its caller has seen

-- What was seen goes on by entries that aren't calls of the client, and then this call. The client's calls have grown by it.
pub record ExtendsByOne (c : ℕ) (old new : List EntryValue) (call : EntryValue) : Type 0 where
  pub between : List EntryValue
  pub split : new ≡ (old ++ between) ++ call ∷ []
  pub others : calls_by c between ≡ []
  pub grown : calls_by c new ≡ calls_by c old ++ call ∷ []
