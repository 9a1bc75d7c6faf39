-- The numbers of inodes: which client made an inode, and as which of its own.
-- POSIX.1-2017, base definitions, chapter 3: File Serial Number, which is unique within a file system.
use Rattle.std.specs.Prelude.{ℕ, ◌+◌, ◌*◌, Bool, true, false, ◌==◌, ◌&&◌, List, [], ◌∷◌, ◌++◌}
use Rattle.std.specs.List.{count_by}
use Rattle.assise_names.specs.declared.call.Op.{Op}
use Rattle.assise_names.specs.declared.call.Op.TheVariants.{Create, Mkdir, Read, Write, Truncate, Rename, Unlink, Rmdir, List as ListCall, Stat, Fsync, Dsync}
use Rattle.assise_names.specs.declared.reply.Reply.{Reply}
use Rattle.assise_names.specs.declared.reply.Reply.TheVariants.{Done, Bytes, Names, File, Dir, Error}
use Rattle.assise_inode_table.specs.Traces.{NumberedCall}

-- the inode that a client makes when it has made `count` before; clients are numbered from 1, so the root, inode 0, is nobody's
abbrev pub inode_number : ℕ → ℕ → ℕ
inode_number client count = 4294967296 * client + count

-- an answered call: the client, how many of its calls were answered before, what was asked, and the reply
pub record AnsweredCall : Type 0 where
  pub client : ℕ
  pub number : ℕ
  pub op : Op
  pub reply : Reply

abbrev pub is_done : Reply → Bool
is_done Done = true
is_done (Bytes bytes) = false
is_done (Names names) = false
is_done (File size) = false
is_done (Dir count) = false
is_done (Error e) = false

-- a call that was answered so made an inode
abbrev pub makes_inode : Op → Reply → Bool
makes_inode (Create p) reply = is_done reply
makes_inode (Mkdir p) reply = is_done reply
makes_inode (Read p offset most) reply = false
makes_inode (Write p offset new) reply = false
makes_inode (Truncate p size) reply = false
makes_inode (Rename p q) reply = false
makes_inode (Unlink p) reply = false
makes_inode (Rmdir p) reply = false
makes_inode (ListCall p) reply = false
makes_inode (Stat p) reply = false
makes_inode Fsync reply = false
makes_inode Dsync reply = false

-- how many inodes a client made
abbrev pub inodes_made : ℕ → List AnsweredCall → ℕ
inodes_made c xs = count_by (λ x. (x.client == c) && makes_inode x.op x.reply) xs

-- a call after others, with the number of the inode that it makes, if it makes one
abbrev pub numbered_call : List AnsweredCall → AnsweredCall → NumberedCall
numbered_call before x = record { client = x.client; number = x.number; op = x.op; reply = x.reply; fresh = inode_number x.client (inodes_made x.client before) }

-- each call after those before it
abbrev pub numbered_after : List AnsweredCall → List AnsweredCall → List NumberedCall
numbered_after before [] = []
numbered_after before (x ∷ xs) = numbered_call before x ∷ numbered_after (before ++ x ∷ []) xs

abbrev pub numbered : List AnsweredCall → List NumberedCall
numbered xs = numbered_after [] xs
