-- What a walk from the end of a history to its front finds of a client.
use Rattle.std.specs.Prelude.{◌≡◌, ◌==◌, ◌&&◌, nat_le, if◌then◌else◌, ℕ, Bool, false, List, [], ◌∷◌, ◌++◌, Option, None, Some, reverse}
use Rattle.std.specs.List.{list_any}
use Rattle.assise_history.specs.declared.call.Call.{Call}
use Rattle.assise_history.specs.declared.call.Loss.{Loss}
use Rattle.assise_history.specs.Entries.{EntryValue, calls}
use Rattle.assise_history.specs.Kept.{is_lost}
use Rattle.assise_history.specs.Legal.{calls_made}
use Rattle.assise_files.specs.declared.redo.LostChange.{LostChange}
use Rattle.assise_files.specs.declared.redo.Lost.{Lost}
use Rattle.assise_files.specs.LostChanges.{change_of, is_change, lost_changes}

-- each call's number is the count of its client's earlier calls
abbrev pub IsNumbered : List EntryValue → Type 0
IsNumbered h = (before later : List EntryValue) (x : Call) → h ≡ before ++ calls x ∷ later → x.number ≡ calls_made x.client before

-- these losses take the client's call of this number
abbrev pub are_taken : List Loss → (c number : ℕ) → Bool
are_taken losses c number = list_any (λ l. (l.client == c) && nat_le l.first number) losses

-- it is at or behind the first that is taken
abbrev pub is_taken_from : Option ℕ → ℕ → Bool
is_taken_from None number = false
is_taken_from (Some first) number = nat_le first number

-- the change that the call of the client is, if it is one that is lost
abbrev pub change_found : ℕ → Option ℕ → Call → List LostChange
change_found first taken x = if (nat_le first x.number && is_change x) && is_taken_from taken x.number then change_of x ∷ [] else []

-- what is found in these entries: from which number on failures take the client's calls in front of them, and the lost changes, the last
-- first
pub record AreFound (c first : ℕ) (later : List EntryValue) (lost : Lost) : Type 0 where
  pub taken : (x : Call) → c ≡ x.client → is_lost later x ≡ is_taken_from lost.taken x.number
  pub changes : lost.changes.items ≡ reverse (lost_changes c first later)

-- the entry is a call of the client up to this number
abbrev pub is_call_to : (c first : ℕ) → EntryValue → Bool
is_call_to c first (calls x) = (c == x.client) && nat_le x.number first
is_call_to c first _ = false
