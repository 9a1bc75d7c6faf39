-- Six words or more make no command, whatever stands behind the sixth.
use Rattle.assise_fault_script.proofs.Common.{◌≡◌, ℕ, Bool, List, [], ◌∷◌, take, Result, Err, refl, for_cluster, for_manual, for_open, for_carry, for_digest}
use Rattle.assise_fault_script.proofs.Common.{for_release, for_crash, for_fail, for_back, for_refill, for_join, for_raise, for_link, for_hot, for_tree}
use Rattle.assise_fault_script.proofs.Common.{for_history, for_check, IsOk, Ok, ScriptFault, WrongCount, call_command, of_path, path_word, ◌>>=◌}
use Rattle.assise_fault_script.proofs.Common.{keyword_command, client_command, arith, command_of, other_command}
use Rattle.assise_names.specs.Path.{path_of}
use Rattle.assise_names.specs.declared.path.PathFault.{PathFault}
use Rattle.assise_fault_script.specs.declared.command.CallWord.{CallWord}
use Rattle.assise_fault_script.specs.declared.command.CallWord.TheVariants.{Create as for_create, Mkdir as for_mkdir, Read as for_read, Write as for_write}
use Rattle.assise_fault_script.specs.declared.command.CallWord.TheVariants.{Truncate as for_truncate, Rename as for_rename, Unlink as for_unlink}
use Rattle.assise_fault_script.specs.declared.command.CallWord.TheVariants.{Rmdir as for_rmdir, List as for_list, Stat as for_stat, Fsync as for_fsync}
use Rattle.assise_fault_script.specs.declared.command.CallWord.TheVariants.{Dsync as for_dsync}
use Rattle.assise_fault_script.specs.declared.command.Keyword as first

abbrev Word : Type 0
Word = List ℕ

many_for_call : (k : CallWord) (a b c d : Word) (rest : List Word) → call_command k (a ∷ b ∷ c ∷ d ∷ rest) ≡ Err WrongCount
many_for_call for_create a b c d rest = refl
many_for_call for_mkdir a b c d rest = refl
many_for_call for_read a b c d rest = refl
many_for_call for_write a b c d rest = refl
many_for_call for_truncate a b c d rest = refl
many_for_call for_rename a b c d rest = refl
many_for_call for_unlink a b c d rest = refl
many_for_call for_rmdir a b c d rest = refl
many_for_call for_list a b c d rest = refl
many_for_call for_stat a b c d rest = refl
many_for_call for_fsync a b c d rest = refl
many_for_call for_dsync a b c d rest = refl

many_for_keyword : (k : first.Keyword) (a b c d : Word) (rest : List Word) → keyword_command k (a ∷ b ∷ c ∷ d ∷ rest) ≡ Err WrongCount
many_for_keyword for_cluster a b c d rest = refl
many_for_keyword for_manual a b c d rest = refl
many_for_keyword for_open a b c d rest = refl
many_for_keyword for_carry a b c d rest = refl
many_for_keyword for_digest a b c d rest = refl
many_for_keyword for_release a b c d rest = refl
many_for_keyword for_crash a b c d rest = refl
many_for_keyword for_fail a b c d rest = refl
many_for_keyword for_back a b c d rest = refl
many_for_keyword for_refill a b c d rest = refl
many_for_keyword for_join a b c d rest = refl
many_for_keyword for_raise a b c d rest = refl
many_for_keyword for_link a b c d rest = refl
many_for_keyword for_hot a b c d rest = refl
many_for_keyword for_tree a b c d rest = refl
many_for_keyword for_history a b c d rest = refl
many_for_keyword for_check a b c d rest = refl

same_after : {A B : Type 0} (r : Result A ScriptFault) (f g : A → Result B ScriptFault) → ((x : A) → f x ≡ g x) → (r >>= f) ≡ (r >>= g)
same_after (Ok x) f g h = h x
same_after (Err e) f g h = refl

for_client : (built : Bool) (client name a b c d : Word) (rest : List Word) → client_command built client (name ∷ a ∷ b ∷ c ∷ d ∷ [])
    ≡ client_command built client (name ∷ a ∷ b ∷ c ∷ d ∷ rest)
for_client built client name a b c d rest = grind (arith, same_after)

for_other : (built : Bool) (word b c d e : Word) (rest more : List Word) → other_command built word (b ∷ c ∷ d ∷ e ∷ rest) ≡ other_command built word
    (b ∷ c ∷ d ∷ e ∷ more)
for_other built word b c d e rest more = grind (arith, same_after)

pub six : (built : Bool) (words : List Word) → command_of built (take 6 words) ≡ command_of built words
six built [] = refl
six built (a ∷ []) = refl
six built (a ∷ b ∷ []) = refl
six built (a ∷ b ∷ c ∷ []) = refl
six built (a ∷ b ∷ c ∷ d ∷ []) = refl
six built (a ∷ b ∷ c ∷ d ∷ e ∷ []) = refl
six built (a ∷ b ∷ c ∷ d ∷ e ∷ f ∷ rest) = grind (arith, for_client, for_other)

-- ---- a word that spells a path

pub spelled : (word : List ℕ) → IsOk (path_of word) → (path : List (List ℕ)) × (path_word word ≡ Ok path)
spelled word h = given (path_of word) h
  where
    given : (r : Result (List (List ℕ)) PathFault) → IsOk r → (path : List (List ℕ)) × (of_path r ≡ Ok path)
    given (Ok path) h = (path, refl)
    given (Err e) h = cc
