-- What a call listed, as it stands in the history.
use Rattle.std.specs.Prelude.{◌≡◌, ℕ, List, Option, None, Some, Result, Err, slice_get}
use Rattle.assise_names.specs.declared.reply.Reply.{Reply}
use Rattle.assise_names.specs.declared.reply.Reply.TheVariants.{Names}
use Rattle.assise_history.specs.Entries.{EntryValue, calls}
use Rattle.assise_desk.specs.declared.desk_fault.DeskFault.{DeskFault}
use Rattle.assise_desk.specs.declared.desk_fault.DeskFault.TheVariants.{BadRequest}
use Rattle.assise_desk.specs.ShownReplies.{ShowsPage}

abbrev pub names_told : Reply → Option (List (List ℕ))
names_told (Names names) = Some names
names_told _ = None

abbrev pub names_listed : Option EntryValue → Option (List (List ℕ))
names_listed (Some (calls x)) = names_told x.reply
names_listed _ = None

-- the names that the call at this place, counted from 0, listed
abbrev pub names_at : List EntryValue → ℕ → Option (List (List ℕ))
names_at h place = names_listed (slice_get h place)

-- a page of them, from number `first` on; or that there are none
pub data ShowsListed (h : List EntryValue) (place first : ℕ) (result : Result ℕ DeskFault) (before out : List ℕ) (stood stands : ℕ) : Type 0 where
  shows_listed : (names : List (List ℕ)) → names_at h place ≡ Some names → ShowsPage names first result stands out → ShowsListed h place first result before out stood stands
  listed_none : names_at h place ≡ None → result ≡ Err BadRequest → out ≡ before → stands ≡ stood → ShowsListed h place first result before out stood stands
