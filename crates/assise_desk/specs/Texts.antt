-- Texts of a cluster, which a desk keeps and shows in pages.
use Rattle.std.specs.Prelude.{◌≡◌, ℕ, ◌-◌, min, List, [], length, take, drop, Option, None, Some, Result, Ok, Err}
use Rattle.std.specs.Global.{Box, Global}
use Rattle.std.specs.Prelude.{String, string_bytes}
use Rattle.assise_history.specs.Text.{history_text}
use Rattle.assise_names.specs.declared.refusal.Refusal.{Refusal}
use Rattle.assise_model_events.specs.Faults.{node_fault}
use Rattle.assise_seq_tree.specs.Lines.{tree_text}
use Rattle.assise_files.specs.FilesSeen.{cluster_seen, safe_tree_seen}
use Rattle.assise_files.specs.declared.files.Files.{Files}
use Rattle.assise_desk.specs.declared.desk_call.DeskText.{DeskText}
use Rattle.assise_desk.specs.declared.desk_call.DeskText.TheVariants.{History, Tree}
use Rattle.assise_desk.specs.declared.desk_fault.DeskFault.{DeskFault}
use Rattle.assise_desk.specs.declared.desk_fault.DeskFault.TheVariants.{NoCluster, Refused}
use Rattle.assise_desk.specs.declared.desk_request.TheConstants.{DESK_BYTES}
use Rattle.assise_desk.specs.FaultCodes.{no_memory}

-- the bytes that are kept, and none where no text is
abbrev pub text_kept : Option (Box (String Global)) → List ℕ
text_kept None = []
text_kept (Some text) = string_bytes text.value

-- the text of this kind, at a node that is full where it is the tree's
abbrev pub IsTextOf : DeskText → ℕ → Files → List ℕ → Type 0
IsTextOf History n files bytes = bytes ≡ history_text (cluster_seen files).history
IsTextOf Tree n files bytes = (node_fault (cluster_seen files) n ≡ None) × (bytes ≡ tree_text (safe_tree_seen files))

-- why there is none: no memory, or a node that isn't full
pub data MayNotPrint (text : DeskText) (n : ℕ) (files : Files) (fault : DeskFault) : Type 0 where
  text_lacks_memory : fault ≡ no_memory → MayNotPrint text n files fault
  has_no_tree : (refusal : Refusal) → text ≡ Tree → node_fault (cluster_seen files) n ≡ Some refusal → fault ≡ Refused refusal → MayNotPrint text n files fault

-- it is kept, and its length told; or there is none, and what was kept stays
pub data PrintsText (text : DeskText) (n : ℕ) (files : Files) (before : List ℕ) (result : Result ℕ DeskFault) (kept : List ℕ) : Type 0 where
  prints_text : IsTextOf text n files kept → result ≡ Ok (length kept) → PrintsText text n files before result kept
  prints_none : (fault : DeskFault) → MayNotPrint text n files fault → result ≡ Err fault → kept ≡ before → PrintsText text n files before result kept

-- the same of a desk's cluster, if it has one
pub data KeepsText (text : DeskText) (n : ℕ) (owned : Option Files) (before : List ℕ) (result : Result ℕ DeskFault) (kept : List ℕ) : Type 0 where
  keeps_text : (files : Files) → owned ≡ Some files → PrintsText text n files before result kept → KeepsText text n owned before result kept
  owns_none : owned ≡ None → result ≡ Err NoCluster → kept ≡ before → KeepsText text n owned before result kept

-- what is kept from place `first` on, as much as there is room for
pub record ShowsPageOf (kept : List ℕ) (first : ℕ) (result : Result ℕ DeskFault) (out : List ℕ) : Type 0 where
  pub count : ℕ
  pub result_is : result ≡ Ok count
  pub count_is : count ≡ min DESK_BYTES (length kept - first)
  pub shown : take count out ≡ take DESK_BYTES (drop first kept)
