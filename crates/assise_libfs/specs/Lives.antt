-- What a history tells of a client's life: its open, its crash, and its node's failure.
-- Assise (OSDI 2020), section 3 (process crash, fail-over).
use Rattle.std.specs.Prelude.{◌≡◌, ℕ, true, List, [], ◌∷◌, ◌++◌}
use Rattle.std.specs.List.{list_any}
use Rattle.assise_names.specs.declared.durability.Durability.{Durability}
use Rattle.assise_history.specs.Entries.{EntryValue, opens}
use Rattle.assise_history.specs.Legal.{IsOpenedOn, is_crash_of, is_failure_of}
use Rattle.assise_keeper.specs.Clients.{openings_of}

-- the client was opened on the node, and so
pub record IsOpenedAs (c n : ℕ) (u : Durability) (h : List EntryValue) : Type 0 where
  pub before : List EntryValue
  pub since : List EntryValue
  pub split : h ≡ before ++ opens c n u ∷ since

-- what was seen goes on, and ends with the client's opening on the node, and so
abbrev pub EndsWithOpening : ℕ → ℕ → Durability → List EntryValue → List EntryValue → Type 0
EndsWithOpening c n u old new = (between : List EntryValue) × (new ≡ (old ++ between) ++ opens c n u ∷ [])

-- no other client was opened meanwhile
abbrev pub OpensNoOther : ℕ → ℕ → Durability → List EntryValue → List EntryValue → Type 0
OpensNoOther c n u old new = openings_of new ≡ openings_of old ++ opens c n u ∷ []

-- the client's node has failed since the client was opened
pub record HasLostNode (c : ℕ) (h : List EntryValue) : Type 0 where
  pub node : ℕ
  pub opened : IsOpenedOn h c node
  pub failure : list_any (is_failure_of node) opened.since ≡ true

-- the client has crashed since it was opened
pub record HasCrashed (c : ℕ) (h : List EntryValue) : Type 0 where
  pub node : ℕ
  pub opened : IsOpenedOn h c node
  pub crash : list_any (is_crash_of c) opened.since ≡ true
