-- What is printed of paths, calls, replies and refusals, byte by byte.
use Rattle.std.specs.Prelude.{ℕ, ◌/◌, ◌%◌, false, List, ◌∷◌, ◌++◌, length, codes}
use Rattle.std.specs.List.{flat_map}
use Rattle.std.specs.Fmt.{decimal, digits}
use Rattle.assise_names.specs.Path.{path_spelling}
use Rattle.assise_names.specs.declared.call.Op.{Op}
use Rattle.assise_names.specs.declared.call.Op.TheVariants.{Create, Mkdir, Read, Write, Truncate, Rename, Unlink, Rmdir, List as ListCall, Stat, Fsync, Dsync}
use Rattle.assise_names.specs.declared.path.PathFault.{PathFault}
use Rattle.assise_names.specs.declared.path.PathFault.TheVariants.{NotAbsolute, EmptyName, BadName, NameTooLong, TooDeep, Memory}
use Rattle.assise_names.specs.declared.refusal.Refusal.{Refusal}
use Rattle.assise_names.specs.declared.refusal.Refusal.TheVariants.{OutOfMemory, Busy, NodeDown, ClientGone, InodesSpent, TooLarge, LastNode, BadNode, BadClient, WrongPhase, StaleMessage, LogFull}
use Rattle.assise_names.specs.declared.reply.Reply.{Reply}
use Rattle.assise_names.specs.declared.reply.Reply.TheVariants.{Done, Bytes, Names, File, Dir, Error}
use Rattle.assise_names.specs.declared.reply.TreeError.{TreeError}
use Rattle.assise_names.specs.declared.reply.TreeError.TheVariants.{NoEnt, Exists, NotDir, IsDir, NotEmpty, Invalid, TooBig, DirFull}

-- two lower-case hexadecimal digits
abbrev pub hex_byte : ℕ → List ℕ
hex_byte b = digits 16 false (b / 16) ++ digits 16 false (b % 16)

abbrev pub hex : List ℕ → List ℕ
hex bytes = flat_map hex_byte bytes

-- each name after a space
abbrev pub spaced : List (List ℕ) → List ℕ
spaced names = flat_map (λ name. 32 ∷ name) names

abbrev pub path_fault_text : PathFault → List ℕ
path_fault_text NotAbsolute = codes "not absolute"
path_fault_text EmptyName = codes "empty name"
path_fault_text BadName = codes "bad name"
path_fault_text NameTooLong = codes "name too long"
path_fault_text TooDeep = codes "too deep"
path_fault_text Memory = codes "out of memory"

abbrev pub error_text : TreeError → List ℕ
error_text NoEnt = codes "E1 NoEnt"
error_text Exists = codes "E2 Exists"
error_text NotDir = codes "E3 NotDir"
error_text IsDir = codes "E4 IsDir"
error_text NotEmpty = codes "E5 NotEmpty"
error_text Invalid = codes "E6 Invalid"
error_text TooBig = codes "E7 TooBig"
error_text DirFull = codes "E8 DirFull"

abbrev pub refusal_text : Refusal → List ℕ
refusal_text OutOfMemory = codes "F1 OutOfMemory"
refusal_text Busy = codes "F2 Busy"
refusal_text NodeDown = codes "F3 NodeDown"
refusal_text ClientGone = codes "F4 ClientGone"
refusal_text InodesSpent = codes "F5 InodesSpent"
refusal_text TooLarge = codes "F6 TooLarge"
refusal_text LastNode = codes "F7 LastNode"
refusal_text BadNode = codes "F8 BadNode"
refusal_text BadClient = codes "F9 BadClient"
refusal_text WrongPhase = codes "F10 WrongPhase"
refusal_text StaleMessage = codes "F11 StaleMessage"
refusal_text LogFull = codes "F12 LogFull"

abbrev pub reply_text : Reply → List ℕ
reply_text Done = codes "done"
reply_text (Bytes bytes) = codes "bytes " ++ decimal (length bytes) ++ codes " x" ++ hex bytes
reply_text (Names names) = codes "names " ++ decimal (length names) ++ spaced names
reply_text (File size) = codes "file " ++ decimal size
reply_text (Dir entries) = codes "dir " ++ decimal entries
reply_text (Error error) = error_text error

-- a call's name and words, with the count of a write's bytes in place of the bytes
abbrev pub op_text : Op → List ℕ
op_text (Create path) = codes "create " ++ path_spelling path
op_text (Mkdir path) = codes "mkdir " ++ path_spelling path
op_text (Read path offset length) = codes "read " ++ path_spelling path ++ codes " " ++ decimal offset ++ codes " " ++ decimal length
op_text (Write path offset bytes) = codes "write " ++ path_spelling path ++ codes " " ++ decimal offset ++ codes " " ++ decimal (length bytes)
op_text (Truncate path size) = codes "truncate " ++ path_spelling path ++ codes " " ++ decimal size
op_text (Rename from to) = codes "rename " ++ path_spelling from ++ codes " " ++ path_spelling to
op_text (Unlink path) = codes "unlink " ++ path_spelling path
op_text (Rmdir path) = codes "rmdir " ++ path_spelling path
op_text (ListCall path) = codes "list " ++ path_spelling path
op_text (Stat path) = codes "stat " ++ path_spelling path
op_text Fsync = codes "fsync"
op_text Dsync = codes "dsync"
