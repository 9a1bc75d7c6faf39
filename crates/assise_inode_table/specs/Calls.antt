-- The calls over inodes: which inodes each visits, what it checks, in order, what it answers, and what it does.
-- POSIX.1-2017, system interfaces: open() with O_CREAT and O_EXCL, mkdir(), read(), write(), truncate(), rename(), unlink(), rmdir(), readdir(), stat(), fsync(); base definitions: 4.13 Pathname Resolution.
use Rattle.std.specs.Prelude.{ℕ, Bool, ◌||◌, if◌then◌else◌, nat_le, ◌==◌, List, [], ◌∷◌, length, is_some, Option, Some, None, Result, Ok, Err, ok_or}
use Rattle.std.specs.FinMap as map
use Rattle.assise_names.specs.Path.{is_proper_prefix, same_path}
use Rattle.assise_names.specs.declared.call.Op.{Op}
use Rattle.assise_names.specs.declared.call.Op.TheVariants.{Create, Mkdir, Read, Write as WriteCall, Truncate, Rename, Unlink as UnlinkCall, Rmdir, List as ListCall, Stat, Fsync, Dsync}
use Rattle.assise_names.specs.declared.reply.Reply.{Reply}
use Rattle.assise_names.specs.declared.reply.Reply.TheVariants.{Done, Bytes, Names, File, Dir, Error}
use Rattle.assise_names.specs.declared.reply.TreeError.{TreeError}
use Rattle.assise_names.specs.declared.reply.TreeError.TheVariants.{NoEnt, Exists, NotDir, IsDir, NotEmpty, Invalid, TooBig, DirFull}
use Rattle.assise_seq_tree.specs.Contents.{bytes_from, is_within}
use Rattle.assise_seq_tree.specs.Answer.{◌>>=◌, parent_of, last_name}
use Rattle.assise_record.specs.declared.effect.Effect.{Effect}
use Rattle.assise_record.specs.declared.effect.Effect.TheVariants.{NewFile, NewDir, Write, SetLen, Link, Unlink, Free}
use Rattle.assise_inode_table.specs.Contents.{Content, regular, directory, Links, Values}
use Rattle.assise_inode_table.specs.Reach.{link_of}
use Rattle.assise_inode_table.specs.Interaction.{Interaction, visit, finish, Step, step_by}

-- ---- the walk

-- goes on where a check passes, and else answers its error
abbrev pub then_or_error : {A : Type 0} → Result A TreeError → (A → Interaction) → Interaction
then_or_error (Ok x) next = next x
then_or_error (Err e) next = finish (Error e) []

-- visits the inode and each that a name of the path leads to; what the last one holds decides
abbrev pub walk_from : ℕ → List (List ℕ) → (ℕ → Content → Interaction) → Interaction
walk_from i [] next = visit i (λ value. then_or_error (ok_or value NoEnt) (λ content. next i content))
walk_from i (name ∷ p) next = visit i (λ value. then_or_error (link_of value name) (λ j. walk_from j p next))

-- from the root
abbrev pub walk : List (List ℕ) → (ℕ → Content → Interaction) → Interaction
walk p next = walk_from 0 p next

-- from the root to a directory, and on to the inode that its entry links to
abbrev pub walk_to_entry : List (List ℕ) → List ℕ → (ℕ → ℕ → Content → Interaction) → Interaction
walk_to_entry parent name next = walk parent (λ d content. then_or_error (link_of (Some content) name) (λ i. walk_from i [] (next d)))

-- ---- what an inode is asked

abbrev pub as_regular : Content → Result (List ℕ) TreeError
as_regular (regular bytes) = Ok bytes
as_regular (directory links) = Err IsDir

abbrev pub as_links : Content → Result Links TreeError
as_links (regular bytes) = Err NotDir
as_links (directory links) = Ok links

-- there is no such link, and there is room for one more
abbrev pub room_among : List ℕ → Links → Result (Unit {0}) TreeError
room_among name links = if is_some (map.get links name) then Err Exists else (if nat_le 4096 (length (map.keys links)) then Err DirFull else Ok tt)

abbrev pub without_links : Links → Result (Unit {0}) TreeError
without_links links = if length (map.keys links) == 0 then Ok tt else Err NotEmpty

-- a file may take the place of a file, and a directory that of a directory without entries
abbrev pub content_may_replace : Content → Content → Result (Unit {0}) TreeError
content_may_replace (regular bytes) target = as_regular target >>= λ _. Ok tt
content_may_replace (directory links) target = as_links target >>= λ others. without_links others

-- what a stat says of it
abbrev pub stat_reply : Content → Reply
stat_reply (regular bytes) = File (length bytes)
stat_reply (directory links) = Dir (length (map.keys links))

-- ---- one definition for each call

-- a new inode of the number `fresh`, and its entry
abbrev pub make_call : Effect → List (List ℕ) → ℕ → Interaction
make_call new p fresh =
    if length p == 0 then finish (Error Exists) []
    else walk (parent_of p) (λ d content. then_or_error (as_links content) (λ links. then_or_error (room_among (last_name p) links) (λ _.
    finish Done (new ∷ Link d (last_name p) fresh ∷ []))))

abbrev pub create_call : List (List ℕ) → ℕ → Interaction
create_call p fresh = make_call (NewFile fresh) p fresh

abbrev pub mkdir_call : List (List ℕ) → ℕ → Interaction
mkdir_call p fresh = make_call (NewDir fresh) p fresh

abbrev pub read_call : List (List ℕ) → ℕ → ℕ → Interaction
read_call p offset most = walk p (λ i content. then_or_error (as_regular content) (λ bytes. finish (Bytes (bytes_from offset most bytes)) []))

-- without new bytes nothing is written, past the end of the file too
abbrev pub write_effects : ℕ → ℕ → List ℕ → List Effect
write_effects i offset new = if length new == 0 then [] else Write i (record { offset = offset; bytes = new }) ∷ []

abbrev pub write_call : List (List ℕ) → ℕ → List ℕ → Interaction
write_call p offset new =
    walk p (λ i content. then_or_error (as_regular content) (λ _. if is_within offset new then finish Done (write_effects i offset new) else finish (Error TooBig) []))

abbrev pub truncate_call : List (List ℕ) → ℕ → Interaction
truncate_call p size =
    walk p (λ i content. then_or_error (as_regular content) (λ _. if nat_le size 1048576 then finish Done (SetLen i size ∷ []) else finish (Error TooBig) []))

-- inode i, which is the entry `name` of directory d, becomes the entry `new` of directory e
abbrev pub move_effects : ℕ → List ℕ → ℕ → List ℕ → ℕ → List Effect
move_effects d name e new i = Unlink d name ∷ Link e new i ∷ []

-- the entry is visited, and goes
abbrev pub replace_target : Content → ℕ → List ℕ → List Effect → ℕ → Interaction
replace_target moved e new moves g = walk_from g [] (λ g target. then_or_error (content_may_replace moved target) (λ _. finish Done (Unlink e new ∷ Free g ∷ moves)))

abbrev pub room_beside : Bool → Links → Result (Unit {0}) TreeError
room_beside stays links = if stays then Ok tt else (if nat_le 4096 (length (map.keys links)) then Err DirFull else Ok tt)

-- directory e takes the moved inode under a name
abbrev pub receive : Content → Bool → ℕ → Links → List ℕ → List Effect → Option ℕ → Interaction
receive moved stays e links new moves (Some g) = replace_target moved e new moves g
receive moved stays e links new moves None = then_or_error (room_beside stays links) (λ _. finish Done moves)

-- what follows once inode i, the entry of p in directory d, is found
abbrev pub move_to : List (List ℕ) → List (List ℕ) → ℕ → ℕ → Content → Interaction
move_to p q d i moved =
    walk (parent_of q) (λ e content. then_or_error (as_links content) (λ links.
    if same_path p q then finish Done []
    else receive moved (same_path (parent_of p) (parent_of q)) e links (last_name q) (move_effects d (last_name p) e (last_name q) i) (map.get links (last_name q))))

-- the moved inode is visited and not changed
abbrev pub rename_call : List (List ℕ) → List (List ℕ) → Interaction
rename_call p q =
    if (length p == 0) || (length q == 0) then finish (Error Invalid) []
    else (if is_proper_prefix p q then finish (Error Invalid) []
    else walk_to_entry (parent_of p) (last_name p) (move_to p q))

abbrev pub unlink_call : List (List ℕ) → Interaction
unlink_call p =
    if length p == 0 then finish (Error IsDir) []
    else walk_to_entry (parent_of p) (last_name p) (λ d i content. then_or_error (as_regular content) (λ _. finish Done (Unlink d (last_name p) ∷ Free i ∷ [])))

abbrev pub rmdir_call : List (List ℕ) → Interaction
rmdir_call p =
    if length p == 0 then finish (Error Invalid) []
    else walk_to_entry (parent_of p) (last_name p) (λ d i content. then_or_error (as_links content) (λ links. then_or_error (without_links links) (λ _.
    finish Done (Unlink d (last_name p) ∷ Free i ∷ []))))

-- the names of a map ascend
abbrev pub list_call : List (List ℕ) → Interaction
list_call p = walk p (λ i content. then_or_error (as_links content) (λ links. finish (Names (map.keys links)) []))

abbrev pub stat_call : List (List ℕ) → Interaction
stat_call p = walk p (λ i content. finish (stat_reply content) [])

-- a call; what it makes, if it makes an inode, is `fresh`
abbrev pub interaction : Op → ℕ → Interaction
interaction (Create p) fresh = create_call p fresh
interaction (Mkdir p) fresh = mkdir_call p fresh
interaction (Read p offset most) fresh = read_call p offset most
interaction (WriteCall p offset new) fresh = write_call p offset new
interaction (Truncate p size) fresh = truncate_call p size
interaction (Rename p q) fresh = rename_call p q
interaction (UnlinkCall p) fresh = unlink_call p
interaction (Rmdir p) fresh = rmdir_call p
interaction (ListCall p) fresh = list_call p
interaction (Stat p) fresh = stat_call p
interaction Fsync fresh = finish Done []
interaction Dsync fresh = finish Done []

-- what a call is over the values of inodes
abbrev pub step : Values → Op → ℕ → Step
step v op fresh = step_by v (interaction op fresh)
