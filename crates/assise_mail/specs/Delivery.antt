-- The calls of a delivery (Maildir, Bernstein 1995: a message is written under a name of its own, and renamed into its mailbox).
use Rattle.std.specs.Prelude.{◌≡◌, ◌⊎◌, ℕ, Bool, true, false, List, ◌∷◌, ◌++◌, Contains}
use Rattle.assise_names.specs.Path.{same_path}
use Rattle.assise_names.specs.declared.call.Op.{Op}
use Rattle.assise_names.specs.declared.call.Op.TheVariants.{Create, Mkdir, Read, Write, Truncate, Rename, Unlink, Rmdir, List as ListCall, Stat, Fsync, Dsync}
use Rattle.assise_names.specs.declared.reply.Reply.TheVariants.{Done, Error}
use Rattle.assise_names.specs.declared.reply.TreeError.{TreeError}
use Rattle.assise_history.specs.declared.call.Call.{Call}
use Rattle.assise_history.specs.Entries.{EntryValue, calls}
use Rattle.assise_history.specs.Legal.{syncs}
use Rattle.assise_seq_tree.specs.Answer.{IsDisjointFrom}
use Rattle.assise_seq_tree.specs.Tree.{AreDisjointPaths}

-- the call changes nothing, whatever it answers
abbrev pub only_looks : Op → Bool
only_looks (Read p offset most) = true
only_looks (ListCall p) = true
only_looks (Stat p) = true
only_looks Fsync = true
only_looks Dsync = true
only_looks (Create p) = false
only_looks (Mkdir p) = false
only_looks (Write p offset new) = false
only_looks (Truncate p size) = false
only_looks (Rename p q) = false
only_looks (Unlink p) = false
only_looks (Rmdir p) = false

-- an answered call leaves what stands at a path: it names disjoint paths, only looks, or failed
abbrev pub Leaves : List (List ℕ) → Call → Type 0
Leaves p x = IsDisjointFrom x.op p ⊎ ((only_looks x.op ≡ true) ⊎ ((e : TreeError) × (x.reply ≡ Error e)))

abbrev pub AllLeave : List (List ℕ) → List Call → Type 0
AllLeave p xs = (x : Call) → Contains xs x → Leaves p x

-- a message is written to a draft and moved to its place, and each of the three calls was done
pub record IsDelivery (draft place : List (List ℕ)) (message : List ℕ) (make write move : Call) : Type 0 where
  pub makes : make.op ≡ Create draft
  pub made : make.reply ≡ Done
  pub writes : write.op ≡ Write draft 0 message
  pub written : write.reply ≡ Done
  pub moves : move.op ≡ Rename draft place
  pub moved : move.reply ≡ Done
  pub elsewhere : same_path draft place ≡ false

-- ---- in a history

-- all calls among these entries leave what stands at a path
abbrev pub CallsLeave : List (List ℕ) → List EntryValue → Type 0
CallsLeave p es = (before later : List EntryValue) (x : Call) → es ≡ before ++ calls x ∷ later → Leaves p x

-- a client delivered a message and was answered its sync, and what others called since leaves the draft until it was moved, and then the message
pub record IsMessageDelivered (h : List EntryValue) (draft place : List (List ℕ)) (message : List ℕ) : Type 0 where
  pub before : List EntryValue
  pub created : List EntryValue
  pub written : List EntryValue
  pub moved : List EntryValue
  pub behind : List EntryValue
  pub make : Call
  pub write : Call
  pub move : Call
  pub sync : Call
  pub split : h ≡ before ++ calls make ∷ (created ++ calls write ∷ (written ++ calls move ∷ (moved ++ calls sync ∷ behind)))
  pub delivery : IsDelivery draft place message make write move
  pub maker : make.client ≡ sync.client
  pub writer : write.client ≡ sync.client
  pub mover : move.client ≡ sync.client
  pub syncs : syncs (before ++ calls make ∷ (created ++ calls write ∷ (written ++ calls move ∷ moved))) sync ≡ true
  pub first : CallsLeave draft created
  pub second : CallsLeave draft written
  pub third : CallsLeave place moved
  pub last : CallsLeave place behind

-- the calls of a client's delivery stand among these entries, and the others leave the draft until it is moved, and what stands at the place
pub record IsDraftedAndMoved (h : List EntryValue) (draft place : List (List ℕ)) (message : List ℕ) : Type 0 where
  pub before : List EntryValue
  pub created : List EntryValue
  pub written : List EntryValue
  pub moved : List EntryValue
  pub make : Call
  pub write : Call
  pub move : Call
  pub split : h ≡ before ++ calls make ∷ (created ++ calls write ∷ (written ++ calls move ∷ moved))
  pub delivery : IsDelivery draft place message make write move
  pub maker : make.client ≡ move.client
  pub writer : write.client ≡ move.client
  pub apart : AreDisjointPaths draft place
  pub first : CallsLeave draft created
  pub second : CallsLeave draft written
  pub none_before : CallsLeave place before
  pub none_created : CallsLeave place created
  pub none_written : CallsLeave place written
  pub none_moved : CallsLeave place moved
