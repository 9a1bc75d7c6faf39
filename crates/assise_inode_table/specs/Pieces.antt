-- A directory in pieces: its names in order, and beside each the inode that it links to.
-- Bayer and McCreight, Organization and Maintenance of Large Ordered Indices, Acta Informatica 1972, section 3: keys in pages, which are split.
use Rattle.std.specs.Prelude.{◌≡◌, ℕ, Bool, suc, ◌<◌, ◌≤◌, List, [], ◌∷◌, ◌++◌, length, Option, Some, None, take, drop, slice_index_or, true, false}
use Rattle.std.specs.List.{flat_map, All, AllByRecursion}
use Rattle.std.specs.List.Sorted.{IsStrictlySortedBy}
use Rattle.std.specs.Map.{keys_of}
use Rattle.std.specs.Ordering.{is_gt, nat_cmp}
use Rattle.std.specs.declared.cmp.Ordering.TheVariants.{Less}
use Rattle.std.specs.Cmp.Lexicographic.{slice_cmp}
use Rattle.std.specs.FinMap as map
use Rattle.assise_inode_table.specs.Contents.{Links}

-- a name, and the inode that it links to, or none where its entry is gone
abbrev pub Slot : Type 0
Slot = List ℕ × Option ℕ

-- what a name links to, where its entry isn't gone
abbrev pub link_or_none : ℕ → Bool → Option ℕ
link_or_none link true = None
link_or_none link false = Some link

-- the same for each name
unfoldable pub links_or_none : List ℕ → List Bool → List (Option ℕ)
links_or_none [] gone = []
links_or_none (link ∷ links) [] = []
links_or_none (link ∷ links) (gone ∷ rest) = link_or_none link gone ∷ links_or_none links rest

abbrev pub live_entry : List ℕ → Option ℕ → List (List ℕ × ℕ)
live_entry name None = []
live_entry name (Some inode) = (name, inode) ∷ []

-- the entries that aren't gone
abbrev pub live : List Slot → List (List ℕ × ℕ)
live slots = flat_map (λ s. live_entry s.0 s.1) slots

-- the slots of all pieces
abbrev pub slots_in : List (List Slot) → List Slot
slots_in pieces = flat_map (λ piece. piece) pieces

-- the links that pieces make
abbrev pub links_in : List (List Slot) → Links
links_in pieces = map.from_entries (live (slots_in pieces))

abbrev pub piece_at : List (List Slot) → ℕ → List Slot
piece_at pieces i = slice_index_or pieces i []

abbrev pub slot_name : List Slot → ℕ → List ℕ
slot_name slots at = (slice_index_or slots at ([], None)).0

abbrev pub slot_link : List Slot → ℕ → Option ℕ
slot_link slots at = (slice_index_or slots at ([], None)).1

-- the slots before a place in a piece, and those from there on
abbrev pub slots_before : List (List Slot) → ℕ → ℕ → List Slot
slots_before pieces piece at = slots_in (take piece pieces) ++ take at (piece_at pieces piece)

abbrev pub slots_behind : List (List Slot) → ℕ → ℕ → List Slot
slots_behind pieces piece at = drop at (piece_at pieces piece) ++ slots_in (drop (suc piece) pieces)

-- each name is below those after it
abbrev pub Ascend : List Slot → Type 0
Ascend slots = IsStrictlySortedBy (slice_cmp nat_cmp) (keys_of slots)

abbrev pub AreFilled : List (List Slot) → Type 0
AreFilled pieces = All (λ piece. 0 < length piece) pieces

-- a piece: names, and room for as many links as a piece may have, and for which entries are gone
pub record IsPiece (names : List (List ℕ)) (links : List ℕ) (gone : List Bool) : Type 0 where
  pub few : length names ≤ 32
  pub room : length links ≡ 32
  pub gone_room : length gone ≡ 32

-- a directory with its count
pub record IsDirectory (pieces : List (List Slot)) (count : ℕ) : Type 0 where
  pub ascend : Ascend (slots_in pieces)
  pub filled : AreFilled pieces
  pub counted : count ≡ length (live (slots_in pieces))

-- a name stands at a place of a piece
pub record IsSlotOf (name : List ℕ) (slots : List Slot) (at : ℕ) : Type 0 where
  pub within : at < length slots
  pub named : slot_name slots at ≡ name

-- a name would stand at a place of a piece
pub record IsGapFor (name : List ℕ) (slots : List Slot) (at : ℕ) : Type 0 where
  pub within : at ≤ length slots
  pub smaller : AllByRecursion (λ key. slice_cmp nat_cmp key name ≡ Less) (keys_of (take at slots))
  pub greater : AllByRecursion (λ key. slice_cmp nat_cmp name key ≡ Less) (keys_of (drop at slots))

-- a name belongs in a piece: the last whose first name isn't behind it, or the first
pub record IsPieceFor (name : List ℕ) (pieces : List (List Slot)) (piece : ℕ) : Type 0 where
  pub within : piece < length pieces
  pub from : 0 < piece → is_gt (slice_cmp nat_cmp (slot_name (piece_at pieces piece) 0) name) ≡ false
  pub until : suc piece < length pieces → is_gt (slice_cmp nat_cmp (slot_name (piece_at pieces (suc piece)) 0) name) ≡ true

-- a name stands at a place of a piece among pieces
pub record StandsAt (name : List ℕ) (pieces : List (List Slot)) (piece at : ℕ) : Type 0 where
  pub within : piece < length pieces
  pub slot : IsSlotOf name (piece_at pieces piece) at

-- what a new name leaves of pieces: its slot stands at its place, or it is given back and they are as they were
abbrev pub AddsSlot : List (List Slot) → ℕ → ℕ → Slot → Option (List ℕ) → List (List Slot) → Type 0
AddsSlot old piece at slot None new = slots_in new ≡ slots_before old piece at ++ slot ∷ slots_behind old piece at
AddsSlot old piece at slot (Some name) new = (name ≡ slot.0) × (slots_in new ≡ slots_in old)

-- what a new name leaves of a directory: it links to the inode, or it is given back and the directory is as it was
abbrev pub Puts : Links → List ℕ → ℕ → Links → Option (List ℕ) → Type 0
Puts old name inode new None = new ≡ map.insert old name inode
Puts old name inode new (Some left) = (left ≡ name) × (new ≡ old) × (map.get old name ≡ None)
