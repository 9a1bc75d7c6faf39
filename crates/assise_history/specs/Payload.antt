-- What an entry keeps besides what it is: the bytes that its call wrote or read, and the names that it listed.
use Rattle.std.specs.Prelude.{ℕ, List, [], ◌∷◌, ◌+◌, length}
use Rattle.assise_names.specs.declared.call.Op.{Op}
use Rattle.assise_names.specs.declared.call.Op.TheVariants.{Write}
use Rattle.assise_names.specs.declared.reply.Reply.{Reply}
use Rattle.assise_names.specs.declared.reply.Reply.TheVariants.{Bytes, Names}
use Rattle.assise_history.specs.Entries.{EntryValue, calls}

-- how many bytes names have together
abbrev pub name_bytes : List (List ℕ) → ℕ
name_bytes [] = 0
name_bytes (name ∷ names) = length name + name_bytes names

-- how many bytes a call has written
abbrev pub bytes_written : Op → ℕ
bytes_written (Write path offset bytes) = length bytes
bytes_written _ = 0

-- how many bytes a call was answered
abbrev pub bytes_answered : Reply → ℕ
bytes_answered (Bytes bytes) = length bytes
bytes_answered (Names names) = name_bytes names
bytes_answered _ = 0

abbrev pub payload : EntryValue → ℕ
payload (calls x) = bytes_written x.op + bytes_answered x.reply
payload _ = 0

-- and of all entries
abbrev pub payloads : List EntryValue → ℕ
payloads [] = 0
payloads (e ∷ es) = payload e + payloads es
