-- What each call answers, and the tree that it leaves.
-- POSIX.1-2017, system interfaces: open() with O_CREAT and O_EXCL, mkdir(), read(), write(), truncate(), rename(), unlink(), rmdir(), readdir(), stat(), fsync(); base definitions: 4.13 Pathname Resolution.
use Rattle.std.specs.Prelude.{ℕ, ◌-◌, Bool, ◌||◌, if◌then◌else◌, nat_le, ◌==◌, List, [], length, take, slice_index_or, is_some, Option, Some, None, Result, Ok, Err}
use Rattle.assise_names.specs.Path.{is_proper_prefix, same_path}
use Rattle.assise_names.specs.declared.call.Op.{Op}
use Rattle.assise_names.specs.declared.call.Op.TheVariants.{Create, Mkdir, Read, Write, Truncate, Rename, Unlink, Rmdir, List as ListCall, Stat, Fsync, Dsync}
use Rattle.assise_names.specs.declared.reply.Reply.{Reply}
use Rattle.assise_names.specs.declared.reply.Reply.TheVariants.{Done, Bytes, Names, File, Dir, Error}
use Rattle.assise_names.specs.declared.reply.TreeError.{TreeError}
use Rattle.assise_names.specs.declared.reply.TreeError.TheVariants.{Exists, NotDir, IsDir, NotEmpty, Invalid, TooBig, DirFull}
use Rattle.assise_seq_tree.specs.Contents.{bytes_from, overwritten, is_within, resized}
use Rattle.assise_seq_tree.specs.Tree.{Tree, file, dir, Entries, no_entries, AreDisjointPaths, find, names_of, count, at, put, without}

-- ---- the checks, of which the first that fails decides

infixl 10 ◌>>=◌
abbrev pub ◌>>=◌ : {A B : Type 0} → Result A TreeError → (A → Result B TreeError) → Result B TreeError
(Ok x) >>= f = f x
(Err e) >>= f = Err e

-- all names but the last, and the last
abbrev pub parent_of : List (List ℕ) → List (List ℕ)
parent_of p = take (length p - 1) p

abbrev pub last_name : List (List ℕ) → List ℕ
last_name p = slice_index_or p (length p - 1) []

abbrev pub as_directory : Tree → Result Entries TreeError
as_directory (file bytes) = Err NotDir
as_directory (dir es) = Ok es

abbrev pub as_file : Tree → Result (List ℕ) TreeError
as_file (file bytes) = Ok bytes
as_file (dir es) = Err IsDir

abbrev pub file_at : Tree → List (List ℕ) → Result (List ℕ) TreeError
file_at t p = at t p >>= λ found. as_file found

abbrev pub entries_at : Tree → List (List ℕ) → Result Entries TreeError
entries_at t p = at t p >>= λ found. as_directory found

-- the entries have no such name, and there is room for one more
abbrev pub room_for : List ℕ → Entries → Result (Unit {0}) TreeError
room_for name es = if is_some (find name es) then Err Exists else (if nat_le 4096 (count es) then Err DirFull else Ok tt)

-- an entry may be made at the path
abbrev pub room_at : Tree → List (List ℕ) → Result (Unit {0}) TreeError
room_at t p =
    if length p == 0 then Err Exists
    else (at t (parent_of p) >>= λ found. as_directory found >>= λ es. room_for (last_name p) es)

-- a file below the root may be unlinked
abbrev pub may_unlink : Tree → List (List ℕ) → Result (Unit {0}) TreeError
may_unlink t p = if length p == 0 then Err IsDir else (file_at t p >>= λ _. Ok tt)

abbrev pub vacant : Entries → Result (Unit {0}) TreeError
vacant es = if count es == 0 then Ok tt else Err NotEmpty

-- a directory below the root without entries may be removed
abbrev pub may_rmdir : Tree → List (List ℕ) → Result (Unit {0}) TreeError
may_rmdir t p = if length p == 0 then Err Invalid else (entries_at t p >>= λ es. vacant es)

-- a file may take the place of a file, and a directory that of a directory without entries
abbrev pub may_replace : Tree → Tree → Result (Unit {0}) TreeError
may_replace (file bytes) target = as_file target >>= λ _. Ok tt
may_replace (dir es) target = as_directory target >>= λ fs. vacant fs

-- a directory takes the tree under a name: what stands there is replaced, and a new entry needs room unless the tree stays in its directory
abbrev pub may_receive : Tree → Bool → Entries → Option Tree → Result (Unit {0}) TreeError
may_receive moved stays es (Some target) = may_replace moved target
may_receive moved stays es None = if stays then Ok tt else (if nat_le 4096 (count es) then Err DirFull else Ok tt)

-- what stands at p may be moved to q
abbrev pub may_rename : Tree → List (List ℕ) → List (List ℕ) → Result (Unit {0}) TreeError
may_rename t p q =
    if (length p == 0) || (length q == 0) then Err Invalid
    else (if is_proper_prefix p q then Err Invalid
    else (at t p >>= λ moved. entries_at t (parent_of q) >>= λ es.
    if same_path p q then Ok tt else may_receive moved (same_path (parent_of p) (parent_of q)) es (find (last_name q) es)))

-- ---- one definition for each call

-- where a check fails, the error is the reply and the tree stays
abbrev pub reply_and_tree : Tree → Result (Reply × Tree) TreeError → Reply × Tree
reply_and_tree t (Ok r) = r
reply_and_tree t (Err e) = (Error e, t)

abbrev pub create_answer : Tree → List (List ℕ) → Reply × Tree
create_answer t p = reply_and_tree t (room_at t p >>= λ _. Ok (Done, put t p (file [])))

abbrev pub mkdir_answer : Tree → List (List ℕ) → Reply × Tree
mkdir_answer t p = reply_and_tree t (room_at t p >>= λ _. Ok (Done, put t p (dir no_entries)))

abbrev pub read_answer : Tree → List (List ℕ) → ℕ → ℕ → Reply × Tree
read_answer t p offset most = reply_and_tree t (file_at t p >>= λ bytes. Ok (Bytes (bytes_from offset most bytes), t))

-- without new bytes nothing is written, past the end of the file too
abbrev pub tree_after_write : Tree → List (List ℕ) → ℕ → List ℕ → List ℕ → Tree
tree_after_write t p offset new bytes = if length new == 0 then t else put t p (file (overwritten bytes offset new))

abbrev pub write_answer : Tree → List (List ℕ) → ℕ → List ℕ → Reply × Tree
write_answer t p offset new = reply_and_tree t (file_at t p >>= λ bytes. if is_within offset new then Ok (Done, tree_after_write t p offset new bytes) else Err TooBig)

abbrev pub truncate_answer : Tree → List (List ℕ) → ℕ → Reply × Tree
truncate_answer t p size = reply_and_tree t (file_at t p >>= λ bytes. if nat_le size 1048576 then Ok (Done, put t p (file (resized bytes size))) else Err TooBig)

-- moved to its own path it stays
abbrev pub tree_after_rename : Tree → List (List ℕ) → List (List ℕ) → Tree → Tree
tree_after_rename t p q moved = if same_path p q then t else put (without t p) q moved

abbrev pub rename_answer : Tree → List (List ℕ) → List (List ℕ) → Reply × Tree
rename_answer t p q = reply_and_tree t (may_rename t p q >>= λ _. at t p >>= λ moved. Ok (Done, tree_after_rename t p q moved))

abbrev pub unlink_answer : Tree → List (List ℕ) → Reply × Tree
unlink_answer t p = reply_and_tree t (may_unlink t p >>= λ _. Ok (Done, without t p))

abbrev pub rmdir_answer : Tree → List (List ℕ) → Reply × Tree
rmdir_answer t p = reply_and_tree t (may_rmdir t p >>= λ _. Ok (Done, without t p))

-- the entries of a directory ascend by their names
abbrev pub list_answer : Tree → List (List ℕ) → Reply × Tree
list_answer t p = reply_and_tree t (entries_at t p >>= λ es. Ok (Names (names_of es), t))

abbrev pub description_of : Tree → Reply
description_of (file bytes) = File (length bytes)
description_of (dir es) = Dir (count es)

abbrev pub stat_answer : Tree → List (List ℕ) → Reply × Tree
stat_answer t p = reply_and_tree t (at t p >>= λ found. Ok (description_of found, t))

-- the reply to a call, and the tree after it
abbrev pub answer : Tree → Op → Reply × Tree
answer t (Create p) = create_answer t p
answer t (Mkdir p) = mkdir_answer t p
answer t (Read p offset most) = read_answer t p offset most
answer t (Write p offset new) = write_answer t p offset new
answer t (Truncate p size) = truncate_answer t p size
answer t (Rename p q) = rename_answer t p q
answer t (Unlink p) = unlink_answer t p
answer t (Rmdir p) = rmdir_answer t p
answer t (ListCall p) = list_answer t p
answer t (Stat p) = stat_answer t p
answer t Fsync = (Done, t)
answer t Dsync = (Done, t)

-- the path is disjoint from those that the call names
abbrev pub IsDisjointFrom : Op → List (List ℕ) → Type 0
IsDisjointFrom (Create p) q = AreDisjointPaths p q
IsDisjointFrom (Mkdir p) q = AreDisjointPaths p q
IsDisjointFrom (Read p offset most) q = AreDisjointPaths p q
IsDisjointFrom (Write p offset new) q = AreDisjointPaths p q
IsDisjointFrom (Truncate p size) q = AreDisjointPaths p q
IsDisjointFrom (Rename p r) q = AreDisjointPaths p q × AreDisjointPaths r q
IsDisjointFrom (Unlink p) q = AreDisjointPaths p q
IsDisjointFrom (Rmdir p) q = AreDisjointPaths p q
IsDisjointFrom (ListCall p) q = AreDisjointPaths p q
IsDisjointFrom (Stat p) q = AreDisjointPaths p q
IsDisjointFrom Fsync q = Unit {0}
IsDisjointFrom Dsync q = Unit {0}
