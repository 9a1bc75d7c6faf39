-- A reply as a number and bytes.
use Rattle.std.specs.Prelude.{◌≡◌, ℕ, ◌<◌, List, length, take, drop, Result, Ok, Err}
use Rattle.assise_names.specs.declared.reply.Reply.{Reply}
use Rattle.assise_names.specs.declared.reply.Reply.TheVariants.{Done, Bytes, Names, File, Dir, Error}
use Rattle.assise_desk.specs.declared.desk_fault.DeskFault.{DeskFault}
use Rattle.assise_desk.specs.declared.desk_fault.DeskFault.TheVariants.{Tree, NoRoom}
use Rattle.assise_desk.specs.declared.desk_request.TheConstants.{DESK_BYTES}
use Rattle.assise_desk.specs.Pages.{IsPage}

-- the bytes, and what stands at the path, are as they were
pub record LeavesShown (before out : List ℕ) (stood stands : ℕ) : Type 0 where
  pub bytes : out ≡ before
  pub stays : stands ≡ stood

-- the result alone
pub record ShowsResult (answer result : Result ℕ DeskFault) (before out : List ℕ) (stood stands : ℕ) : Type 0 where
  pub result_is : result ≡ answer
  pub leaves : LeavesShown before out stood stands

pub record ShowsPage (names : List (List ℕ)) (first : ℕ) (result : Result ℕ DeskFault) (stands : ℕ) (out : List ℕ) : Type 0 where
  pub count : ℕ
  pub result_is : result ≡ Ok count
  pub page : IsPage DESK_BYTES (drop first names) (take count out)
  pub progress : first < length names → 0 < count
  pub all : stands ≡ length names

pub record ShowsKind (kind number : ℕ) (result : Result ℕ DeskFault) (before out : List ℕ) (stands : ℕ) : Type 0 where
  pub result_is : result ≡ Ok number
  pub bytes : out ≡ before
  pub kind_is : stands ≡ kind

pub data ShowsBytes (bytes : List ℕ) (result : Result ℕ DeskFault) (before out : List ℕ) (stood stands : ℕ) : Type 0 where
  fit : result ≡ Ok (length bytes) → take (length bytes) out ≡ bytes → stands ≡ stood → ShowsBytes bytes result before out stood stands
  are_too_many : DESK_BYTES < length bytes → ShowsResult (Err NoRoom) result before out stood stands → ShowsBytes bytes result before out stood stands

-- a reply as a number, with the bytes and what stands at the path, before it and then
abbrev pub ShowsReply : Reply → ℕ → Result ℕ DeskFault → List ℕ → List ℕ → ℕ → ℕ → Type 0
ShowsReply Done first result before out stood stands = ShowsResult (Ok 0) result before out stood stands
ShowsReply (Bytes bytes) first result before out stood stands = ShowsBytes bytes result before out stood stands
ShowsReply (Names names) first result before out stood stands = ShowsPage names first result stands out
ShowsReply (File size) first result before out stood stands = ShowsKind 1 size result before out stands
ShowsReply (Dir entries) first result before out stood stands = ShowsKind 2 entries result before out stands
ShowsReply (Error error) first result before out stood stands = ShowsResult (Err (Tree error)) result before out stood stands
