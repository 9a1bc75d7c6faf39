-- A client's changes that a failure took.
-- Assise (OSDI 2020), section 3 (prefix crash consistency: a failure takes a tail of what a process did).
use Rattle.std.specs.Prelude.{◌≡◌, ◌==◌, ◌&&◌, nat_le, not, if◌then◌else◌, ℕ, Bool, true, false, List, [], ◌∷◌, ◌++◌, map}
use Rattle.std.specs.List.{AllByRecursion}
use Rattle.assise_names.specs.declared.call.Op.{Op}
use Rattle.assise_names.specs.declared.call.Op.TheVariants.{Dsync, Fsync}
use Rattle.assise_names.specs.declared.durability.Durability.{Durability}
use Rattle.assise_names.specs.declared.reply.Reply.{Reply}
use Rattle.assise_names.specs.declared.reply.Reply.TheVariants.{Done}
use Rattle.assise_seq_tree.specs.Runs.{tree_after_calls}
use Rattle.assise_seq_tree.specs.Tree.{Tree}
use Rattle.assise_history.specs.declared.call.Call.{Call}
use Rattle.assise_history.specs.Entries.{EntryValue, calls, fails, opens}
use Rattle.assise_history.specs.declared.call.Loss.{Loss}
use Rattle.assise_history.specs.Kept.{is_lost, kept, loses}
use Rattle.assise_files.specs.declared.redo.LostChange.{LostChange}

abbrev pub says_done : Reply → Bool
says_done Done = true
says_done _ = false

abbrev pub is_sync_call : Op → Bool
is_sync_call Dsync = true
is_sync_call Fsync = true
is_sync_call _ = false

-- the call changed files: syncs are answered Done too, and what only reads never is
abbrev pub is_change : Call → Bool
is_change x = says_done x.reply && not (is_sync_call x.op)

-- one of the client's changes from this number on, which a failure behind it took
abbrev pub is_lost_change : (c first : ℕ) → List EntryValue → Call → Bool
is_lost_change c first later x = (((c == x.client) && nat_le first x.number) && is_change x) && is_lost later x

abbrev pub change_of : Call → LostChange
change_of x = record { number = x.number; op = x.op }

-- all of them, in order
abbrev pub lost_changes : (c first : ℕ) → List EntryValue → List LostChange
lost_changes c first [] = []
lost_changes c first (calls x ∷ es) = if is_lost_change c first es x then change_of x ∷ lost_changes c first es else lost_changes c first es
lost_changes c first (_ ∷ es) = lost_changes c first es

-- ---- what they make

-- the tree that it becomes once these are made
abbrev pub tree_with : Tree → List LostChange → Tree
tree_with t xs = tree_after_calls t (map (λ x. x.op) xs)

-- a failure with these losses takes the last of the kept calls, and leaves all in front of them
pub record TakesLastKept (h : List EntryValue) (losses : List Loss) (left lost : List Call) : Type 0 where
  pub split : kept h ≡ left ++ lost
  pub stay : AllByRecursion (λ x. loses losses x ≡ false) left
  pub go : AllByRecursion (λ x. loses losses x ≡ true) lost

-- node n failed, where client c lost its calls from `first` on, and then client d was opened on node m
abbrev pub failed_over : List EntryValue → (c n first d m : ℕ) → Durability → List EntryValue
failed_over h c n first d m u = h ++ fails n (record { client = c; first = first } ∷ []) ∷ opens d m u ∷ []
