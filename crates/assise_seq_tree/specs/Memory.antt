-- Which calls ask for memory.
-- POSIX.1-2017, system interfaces: open(), mkdir(), write() and rename(), [ENOSPC], for a directory or a file that would have to be extended.
use Rattle.std.specs.Prelude.{ℕ, ◌+◌, ◌<◌, List, length, Result, Ok, Err, IsErr}
use Rattle.assise_names.specs.declared.call.Op.{Op}
use Rattle.assise_names.specs.declared.call.Op.TheVariants.{Create, Mkdir, Read, Write, Truncate, Rename, Unlink, Rmdir, List as ListCall, Stat, Fsync, Dsync}
use Rattle.assise_names.specs.declared.reply.TreeError.{TreeError}
use Rattle.assise_seq_tree.specs.Answer.{file_at}
use Rattle.assise_seq_tree.specs.Tree.{Tree, at}

abbrev pub length_of_found : Result (List ℕ) TreeError → ℕ
length_of_found (Ok bytes) = length bytes
length_of_found (Err e) = 0

-- how many bytes the file at the path has; none where no file stands there
abbrev pub size_at : Tree → List (List ℕ) → ℕ
size_at t p = length_of_found (file_at t p)

-- the call makes an entry where there was none, makes a file longer, or reads names or at least a byte
abbrev pub CallAsksForMemory : Tree → Op → Type 0
CallAsksForMemory t (Create p) = Unit {0}
CallAsksForMemory t (Mkdir p) = Unit {0}
CallAsksForMemory t (Read p offset most) = (0 < most) × (offset < size_at t p)
CallAsksForMemory t (Write p offset new) = (0 < length new) × (size_at t p < offset + length new)
CallAsksForMemory t (Truncate p size) = size_at t p < size
CallAsksForMemory t (Rename p q) = IsErr (at t q)
CallAsksForMemory t (Unlink p) = ⊥
CallAsksForMemory t (Rmdir p) = ⊥
CallAsksForMemory t (ListCall p) = Unit {0}
CallAsksForMemory t (Stat p) = ⊥
CallAsksForMemory t Fsync = ⊥
CallAsksForMemory t Dsync = ⊥
