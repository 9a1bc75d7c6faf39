-- What clients have heard of a stretch of calls, by what their threads saw.
-- Assise (OSDI 2020), section 3.
use Rattle.std.specs.Prelude.{◌≡◌, ℕ, List, [], ◌∷◌, ◌==◌, if◌then◌else◌, map, length, Option, None, Some, Result, Err}
use Rattle.std.specs.List.{AllByRecursion}
use Rattle.assise_names.specs.declared.refusal.Refusal.{Refusal}
use Rattle.assise_names.specs.declared.refusal.Refusal.TheVariants.{BadClient}
use Rattle.assise_names.specs.declared.reply.Reply.{Reply}
use Rattle.assise_history.specs.Entries.{EntryValue}
use Rattle.assise_keeper.specs.Clients.{calls_by}
use Rattle.assise_libfs.specs.Clients.{client_of, seen_by}
use Rattle.assise_libfs.specs.declared.libfs.LibFs.{LibFs}
use Rattle.assise_workers.specs.Told.{SeesAll, told_all}
use Rattle.assise_threads.specs.ClientTurns.{TurnedThere}
use Rattle.assise_threads.specs.Fronts.{HearsOn}
use Rattle.assise_threads.specs.Said.{Said, TellsClient, calls_in, commands_said}

-- each client with what it has seen, in the order in which they were opened
abbrev pub sights : {S : Type 0} → List (LibFs S) → List (ℕ × List EntryValue)
sights ls = map (λ l. (client_of l, seen_by l)) ls

-- what the first client of this number has seen, if there is one
abbrev pub sight_of : ℕ → List (ℕ × List EntryValue) → Option (List EntryValue)
sight_of c [] = None
sight_of c (x ∷ xs) = if x.0 == c then Some x.1 else sight_of c xs

-- ---- one stretch

-- a client that isn't there is told that there is none; another made its calls of the stretch, and was told what came of them
abbrev pub HearsStretch : ℕ → ℕ → List Said → Option (List EntryValue) → Option (List EntryValue) → Type 0
HearsStretch turns c ss None None = (rs : List (Result Reply Refusal)) × (TellsClient c ss rs × ((length rs ≡ length (calls_in c (commands_said ss))) × (((k : ℕ) → told_all c k (calls_in c (commands_said ss)) rs ≡ []) × AllByRecursion (λ r. r ≡ Err BadClient) rs)))
HearsStretch turns c ss (Some old) (Some new) = (rs : List (Result Reply Refusal)) × (TellsClient c ss rs × SeesAll (TurnedThere turns) c (calls_in c (commands_said ss)) old rs new)
HearsStretch turns c ss None (Some new) = ⊥
HearsStretch turns c ss (Some old) None = ⊥

-- ---- all so far

-- the calls of client c in what its thread has seen
abbrev pub calls_of_sight : ℕ → Option (List EntryValue) → List EntryValue
calls_of_sight c None = []
calls_of_sight c (Some h) = calls_by c h

-- the calls of client c so far, in what its thread has seen, are those that it was told; where it isn't there it was told of none
pub record HasHeard (turns c : ℕ) (ss : List Said) (sight : Option (List EntryValue)) : Type 0 where
  pub outcomes : List (Result Reply Refusal)
  pub count : length outcomes ≡ length (calls_in c (commands_said ss))
  pub tells : TellsClient c ss outcomes
  pub calls : calls_of_sight c sight ≡ told_all c 0 (calls_in c (commands_said ss)) outcomes
  pub on : HearsOn turns c None ss sight
