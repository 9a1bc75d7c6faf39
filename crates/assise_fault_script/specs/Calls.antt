-- The calls of a client: the word of each, and what the words behind it mean.
use Rattle.std.specs.Prelude.{ℕ, List, [], ◌∷◌, Result, Ok, Err, codes}
use Rattle.assise_names.specs.Path.{path_of}
use Rattle.assise_names.specs.declared.call.Op.{Op}
use Rattle.assise_names.specs.declared.call.Op.TheVariants.{Create, Mkdir, Read, Write, Truncate, Rename, Unlink, Rmdir, List as ListCall, Stat, Fsync, Dsync}
use Rattle.assise_names.specs.declared.path.PathFault.{PathFault}
use Rattle.assise_fault_script.specs.declared.command.CallWord.{CallWord}
use Rattle.assise_fault_script.specs.declared.command.CallWord.TheVariants.{Create as for_create, Mkdir as for_mkdir, Read as for_read, Write as for_write, Truncate as for_truncate, Rename as for_rename, Unlink as for_unlink, Rmdir as for_rmdir, List as for_list, Stat as for_stat, Fsync as for_fsync, Dsync as for_dsync}
use Rattle.assise_fault_script.specs.declared.fault.ScriptFault.{ScriptFault}
use Rattle.assise_fault_script.specs.declared.fault.ScriptFault.TheVariants.{UnknownCommand, WrongCount, BadPath}
use Rattle.assise_fault_script.specs.Data.{data_of}
use Rattle.assise_fault_script.specs.Fault.{◌>>=◌, look_up}
use Rattle.assise_fault_script.specs.Number.{number_of}

-- the call that a word names
abbrev pub call_word : List ℕ → Result CallWord ScriptFault
call_word = look_up UnknownCommand
    ((codes "create", for_create) ∷ (codes "write", for_write) ∷ (codes "read", for_read) ∷ (codes "rename", for_rename) ∷
    (codes "stat", for_stat) ∷ (codes "fsync", for_fsync) ∷ (codes "unlink", for_unlink) ∷ (codes "truncate", for_truncate) ∷
    (codes "list", for_list) ∷ (codes "mkdir", for_mkdir) ∷ (codes "dsync", for_dsync) ∷ (codes "rmdir", for_rmdir) ∷ [])

abbrev pub of_path : Result (List (List ℕ)) PathFault → Result (List (List ℕ)) ScriptFault
of_path (Ok path) = Ok path
of_path (Err fault) = Err (BadPath fault)

-- the path that a word spells
abbrev pub path_word : List ℕ → Result (List (List ℕ)) ScriptFault
path_word word = of_path (path_of word)

abbrev pub read_of : List ℕ → List ℕ → List ℕ → Result Op ScriptFault
read_of path offset count = path_word path >>= λ p. number_of offset >>= λ o. number_of count >>= λ n. Ok (Read p o n)

abbrev pub write_of : List ℕ → List ℕ → List ℕ → Result Op ScriptFault
write_of path offset data_word = path_word path >>= λ p. number_of offset >>= λ o. data_of data_word >>= λ bytes. Ok (Write p o bytes)

abbrev pub truncate_of : List ℕ → List ℕ → Result Op ScriptFault
truncate_of path size = path_word path >>= λ p. number_of size >>= λ n. Ok (Truncate p n)

abbrev pub rename_of : List ℕ → List ℕ → Result Op ScriptFault
rename_of from to = path_word from >>= λ p. path_word to >>= λ q. Ok (Rename p q)

-- a row for each call: the count of its words, and what they mean
abbrev pub call_command : CallWord → List (List ℕ) → Result Op ScriptFault
call_command for_create (path ∷ []) = path_word path >>= λ p. Ok (Create p)
call_command for_mkdir (path ∷ []) = path_word path >>= λ p. Ok (Mkdir p)
call_command for_read (path ∷ offset ∷ count ∷ []) = read_of path offset count
call_command for_write (path ∷ offset ∷ data_word ∷ []) = write_of path offset data_word
call_command for_truncate (path ∷ size ∷ []) = truncate_of path size
call_command for_rename (from ∷ to ∷ []) = rename_of from to
call_command for_unlink (path ∷ []) = path_word path >>= λ p. Ok (Unlink p)
call_command for_rmdir (path ∷ []) = path_word path >>= λ p. Ok (Rmdir p)
call_command for_list (path ∷ []) = path_word path >>= λ p. Ok (ListCall p)
call_command for_stat (path ∷ []) = path_word path >>= λ p. Ok (Stat p)
call_command for_fsync [] = Ok Fsync
call_command for_dsync [] = Ok Dsync
call_command _ _ = Err WrongCount
