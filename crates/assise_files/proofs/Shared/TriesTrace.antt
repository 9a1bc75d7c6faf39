-- Changes that are made again are a trace of events.
use Rattle.assise_files.proofs.Common.{ℕ, List, [], ◌∷◌, Result, Ok, ⊤, Done, Machine, IsTriedOut, IsEventTrace, Told, call_trace, nothing_trace, then_trace}
use Rattle.assise_files.proofs.Common.{MakesEach, MakesAgain, finds_none, makes_all, stops_at, LostChange}
use Rattle.assise_files.specs.declared.redo.Unmade.{Unmade}

made_trace : (faithful : ℕ → Type 0) (turns c : ℕ) (xs : List LostChange) (m : Machine) (es : Told) (m' : Machine) → MakesEach faithful turns c xs m es m' →
    IsEventTrace m es m'
made_trace faithful turns c [] m es m' h = nothing_trace m es m' h
made_trace faithful turns c (x ∷ xs) m es m' h = then_trace (IsTriedOut faithful turns c x.op (Ok Done)) (MakesEach faithful turns c xs)
    (call_trace faithful turns c x.op (Ok Done)) (made_trace faithful turns c xs) m es m' h

pub redo_trace : (faithful : ℕ → Type 0) (turns first c : ℕ) (xs : List LostChange) (result : Result ⊤ Unmade) (m : Machine) (es : Told) (m' : Machine) →
    MakesAgain faithful turns first c xs result m es m' →
    IsEventTrace m es m'
redo_trace faithful turns first c xs result m es m' (makes_all done is h) = made_trace faithful turns c xs m es m' h
redo_trace faithful turns first c xs result m es m' (stops_at made x left came split other is h) =
    then_trace (MakesEach faithful turns c made) (IsTriedOut faithful turns c x.op came) (made_trace faithful turns c made)
    (call_trace faithful turns c x.op came) m es m' h
redo_trace faithful turns first c xs result m es m' (finds_none is h) = nothing_trace m es m' h
