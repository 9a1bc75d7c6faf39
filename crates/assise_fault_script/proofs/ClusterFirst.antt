-- The cluster is made by the first command and by no other.
use Rattle.assise_fault_script.proofs.Common.{◌≡◌, ◌≤◌, ℕ, ◌+◌, Bool, true, false, ◌||◌, List, [], ◌∷◌, Option, Some, None, Result, Ok, Err, All, refl, ap, sym}
use Rattle.assise_fault_script.proofs.Common.{subst, inl, inr, arith, cases_Bool, is_some, Command, Manual, Call, Carry, Digest, Release, Crash, Fail, Back}
use Rattle.assise_fault_script.proofs.Common.{Refill, Join, Raise, Tree, History, Check, for_cluster, for_manual, for_open, for_carry, for_digest, for_release}
use Rattle.assise_fault_script.proofs.Common.{for_crash, for_fail, for_back, for_refill, for_join, for_raise, for_link, for_hot, for_tree, for_history}
use Rattle.assise_fault_script.proofs.Common.{for_check, LineFault, ScriptFault, UnknownCommand, WrongCount, NumberedCommand, call_command, call_word, ◌>>=◌}
use Rattle.assise_fault_script.proofs.Common.{keyword_command, keyword_of, cluster_of, cut_link_of, uncut_link_of, hot_capacity_of, begins_with_digit}
use Rattle.assise_fault_script.proofs.Common.{client_command, cluster_there, command_of, in_turn, line_says, nameless_call, other_command, in_limits, limited}
use Rattle.assise_fault_script.proofs.Common.{number_of, ◌>>>◌, IsCluster, IsOther, ClusterFirst, at_line, commands_from, commands_of, numbered_command}
use Rattle.assise_fault_script.proofs.Common.{lines_of, words_of}
use Rattle.std.proofs.lemmas.List.Elements.{All-nil, All-cons}
use Rattle.assise_names.specs.declared.call.Op.{Op}
use Rattle.assise_fault_script.specs.declared.command.Keyword as first

-- a result that is there came from one that was
came_from : {A B : Type 0} (r : Result A ScriptFault) (f : A → Result B ScriptFault) (y : B) → (r >>= f) ≡ Ok y → (x : A) × ((r ≡ Ok x) × (f x ≡ Ok y))
came_from (Ok x) f y h = (x, (refl, h))
came_from (Err e) f y h = cc

came_at : {A B : Type 0} (r : Result A LineFault) (f : A → Result B LineFault) (y : B) → (r >>> f) ≡ Ok y → (x : A) × ((r ≡ Ok x) × (f x ≡ Ok y))
came_at (Ok x) f y h = (x, (refl, h))
came_at (Err e) f y h = cc

-- ---- one command

within : (low high n m : ℕ) → in_limits low high n ≡ Ok m → (low ≤ m) × (m ≤ high)
within low high n m h = grind arith

limits : (low high m : ℕ) (word : List ℕ) → limited low high word ≡ Ok m → (low ≤ m) × (m ≤ high)
limits low high m word h = let n = came_from (number_of word) (in_limits low high) m h in within low high n.0 m n.1.1

-- what a cluster's words make
made : (nodes log hot : List ℕ) (c : Command) → cluster_of nodes log hot ≡ Ok c → IsCluster c
made nodes log hot c h = search arith parts 3

cluster_row : (rest : List (List ℕ)) (c : Command) → keyword_command for_cluster rest ≡ Ok c → IsCluster c
cluster_row (nodes ∷ log ∷ hot ∷ []) c h = made nodes log hot c h
cluster_row [] c h = cc
cluster_row (a ∷ []) c h = cc
cluster_row (a ∷ b ∷ []) c h = cc
cluster_row (a ∷ b ∷ d ∷ e ∷ rest) c h = cc

open_row : (rest : List (List ℕ)) (c : Command) → keyword_command for_open rest ≡ Ok c → IsOther c
open_row (node ∷ kind ∷ []) c h = grind arith
open_row (node ∷ kind ∷ mode ∷ []) c h = grind arith
open_row [] c h = cc
open_row (a ∷ []) c h = cc
open_row (a ∷ b ∷ d ∷ e ∷ rest) c h = cc

uncut_row : (node name : List ℕ) (c : Command) → uncut_link_of node name ≡ Ok c → IsOther c
uncut_row node name c h = search arith parts 3

cut_row : (node name bytes : List ℕ) (c : Command) → cut_link_of node name bytes ≡ Ok c → IsOther c
cut_row node name bytes c h = grind arith

link_row : (rest : List (List ℕ)) (c : Command) → keyword_command for_link rest ≡ Ok c → IsOther c
link_row (node ∷ name ∷ []) c h = uncut_row node name c h
link_row (node ∷ name ∷ bytes ∷ []) c h = cut_row node name bytes c h
link_row [] c h = cc
link_row (a ∷ []) c h = cc
link_row (a ∷ b ∷ d ∷ e ∷ rest) c h = cc

-- what the words of `hot` make
set : (node capacity : List ℕ) (c : Command) → hot_capacity_of node capacity ≡ Ok c → IsOther c
set node capacity c h = grind arith

hot_row : (rest : List (List ℕ)) (c : Command) → keyword_command for_hot rest ≡ Ok c → IsOther c
hot_row (node ∷ capacity ∷ []) c h = set node capacity c h
hot_row [] c h = cc
hot_row (a ∷ []) c h = cc
hot_row (a ∷ b ∷ d ∷ rest) c h = cc

-- a command without words behind its keyword
bare_row : (k : first.Keyword) (made : Command) → IsOther made → keyword_command k [] ≡ Ok made →
    ((a : List ℕ) (rest : List (List ℕ)) → keyword_command k (a ∷ rest) ≡ Err WrongCount) → (rest : List (List ℕ)) (c : Command) →
    keyword_command k rest ≡ Ok c → IsOther c
bare_row k made other none some [] c h = let is : made ≡ c = cc in subst IsOther is other
bare_row k made other none some (a ∷ rest) c h = let bad = some a rest in cc

-- a command with one number behind its keyword
number_row : (k : first.Keyword) (made : ℕ → Command) → ((n : ℕ) → IsOther (made n)) → keyword_command k [] ≡ Err WrongCount →
    ((a : List ℕ) → keyword_command k (a ∷ []) ≡ (number_of a >>= λ n. Ok (made n))) →
    ((a b : List ℕ) (rest : List (List ℕ)) → keyword_command k (a ∷ b ∷ rest) ≡ Err WrongCount) → (rest : List (List ℕ)) (c : Command) →
    keyword_command k rest ≡ Ok c → IsOther c
number_row k made other none one more [] c h = cc
number_row k made other none one more (a ∷ []) c h = grind arith
number_row k made other none one more (a ∷ b ∷ rest) c h = let bad = more a b rest in cc

-- what stands behind each keyword but `cluster` makes no cluster
row : (k : first.Keyword) (u : Unit {0}) (rest : List (List ℕ)) (c : Command) → in_turn true k ≡ Ok u → keyword_command k rest ≡ Ok c → IsOther c
row for_cluster u rest c later h = cc
row for_manual u rest c later h = bare_row for_manual Manual tt refl (λ a more. refl) rest c h
row for_open u rest c later h = open_row rest c h
row for_carry u rest c later h = number_row for_carry Carry (λ n. tt) refl (λ a. refl) (λ a b more. refl) rest c h
row for_digest u rest c later h = number_row for_digest Digest (λ n. tt) refl (λ a. refl) (λ a b more. refl) rest c h
row for_release u rest c later h = bare_row for_release Release tt refl (λ a more. refl) rest c h
row for_crash u rest c later h = number_row for_crash Crash (λ n. tt) refl (λ a. refl) (λ a b more. refl) rest c h
row for_fail u rest c later h = number_row for_fail Fail (λ n. tt) refl (λ a. refl) (λ a b more. refl) rest c h
row for_back u rest c later h = number_row for_back Back (λ n. tt) refl (λ a. refl) (λ a b more. refl) rest c h
row for_refill u rest c later h = number_row for_refill Refill (λ n. tt) refl (λ a. refl) (λ a b more. refl) rest c h
row for_join u rest c later h = number_row for_join Join (λ n. tt) refl (λ a. refl) (λ a b more. refl) rest c h
row for_raise u rest c later h = number_row for_raise Raise (λ n. tt) refl (λ a. refl) (λ a b more. refl) rest c h
row for_link u rest c later h = link_row rest c h
row for_hot u rest c later h = hot_row rest c h
row for_tree u rest c later h = number_row for_tree Tree (λ n. tt) refl (λ a. refl) (λ a b more. refl) rest c h
row for_history u rest c later h = bare_row for_history History tt refl (λ a more. refl) rest c h
row for_check u rest c later h = bare_row for_check Check tt refl (λ a more. refl) rest c h

-- `cluster` is the one keyword in front of which no cluster stands
before_cluster : (k : first.Keyword) (u : Unit {0}) → in_turn false k ≡ Ok u → k ≡ for_cluster
before_cluster for_cluster u h = refl
before_cluster for_manual u h = cc
before_cluster for_open u h = cc
before_cluster for_carry u h = cc
before_cluster for_digest u h = cc
before_cluster for_release u h = cc
before_cluster for_crash u h = cc
before_cluster for_fail u h = cc
before_cluster for_back u h = cc
before_cluster for_refill u h = cc
before_cluster for_join u h = cc
before_cluster for_raise u h = cc
before_cluster for_link u h = cc
before_cluster for_hot u h = cc
before_cluster for_tree u h = cc
before_cluster for_history u h = cc
before_cluster for_check u h = cc

-- what a command that a keyword begins makes, by whether the cluster was there
first_row : (k : first.Keyword) (rest : List (List ℕ)) (c : Command) → (in_turn false k >>= λ _. keyword_command k rest >>= λ c. Ok (Some c)) ≡ Ok (Some c) →
    IsCluster c
first_row k rest c h = grind arith

later_row : (k : first.Keyword) (rest : List (List ℕ)) (c : Command) → (in_turn true k >>= λ _. keyword_command k rest >>= λ c. Ok (Some c)) ≡ Ok (Some c) →
    IsOther c
later_row k rest c h = search arith parts 3

no_call : {P : Type 0} (client : List ℕ) (c : Command) → nameless_call client ≡ Ok (Some c) → P
no_call client c h = let n = came_from (number_of client) (λ _. Err UnknownCommand) (Some c) h in let bad : Err UnknownCommand ≡ Ok (Some c) = n.1.1 in cc

-- a client's call makes no cluster, and comes behind one
client_row : (built : Bool) (client : List ℕ) (rest : List (List ℕ)) (c : Command) → client_command built client rest ≡ Ok (Some c) → (built ≡ true) × IsOther c
client_row built client [] c h = no_call client c h
client_row built client (name ∷ rest) c h =
    let n = came_from (number_of client) (λ n. call_word name >>= λ k. cluster_there built >>= λ _. call_command k rest >>= λ op. Ok (Some (Call n op)))
    (Some c) h in
    let k = came_from (call_word name) (λ k. cluster_there built >>= λ _. call_command k rest >>= λ op. Ok (Some (Call n.0 op))) (Some c) n.1.1 in
    let t = came_from (cluster_there built) (λ _. call_command k.0 rest >>= λ op. Ok (Some (Call n.0 op))) (Some c) k.1.1 in
    let op = came_from (call_command k.0 rest) (λ op. Ok (Some (Call n.0 op))) (Some c) t.1.1 in
    (there built t.0 t.1.0, called n.0 op.0 (let e = op.1.1 in cc))
  where
    there : (built : Bool) (u : Unit {0}) → cluster_there built ≡ Ok u → built ≡ true
    there true u h = refl
    there false u h = cc

    called : (n : ℕ) (op : Op) → Call n op ≡ c → IsOther c
    called n op is = subst IsOther is tt

-- ---- one line

first_command : (words : List (List ℕ)) (c : Command) → command_of false words ≡ Ok (Some c) → IsCluster c
first_command [] c h = cc
first_command (word ∷ rest) c h =
    elim (cases_Bool (begins_with_digit word)) [
      | inl client ↦ search arith parts 3
      | inr other ↦
          let row : other_command false word rest ≡ Ok (Some c) = rw other at h in
          let k = came_from (keyword_of word) (λ k. in_turn false k >>= λ _. keyword_command k rest >>= λ c. Ok (Some c)) (Some c) row in
          first_row k.0 rest c k.1.1
    ]

later_command : (words : List (List ℕ)) (c : Command) → command_of true words ≡ Ok (Some c) → IsOther c
later_command [] c h = cc
later_command (word ∷ rest) c h =
    elim (cases_Bool (begins_with_digit word)) [
      | inl client ↦ let row : client_command true word rest ≡ Ok (Some c) = rw client at h in (client_row true word rest c row).1
      | inr other ↦
          let row : other_command true word rest ≡ Ok (Some c) = rw other at h in
          let k = came_from (keyword_of word) (λ k. in_turn true k >>= λ _. keyword_command k rest >>= λ c. Ok (Some c)) (Some c) row in
          later_row k.0 rest c k.1.1
    ]

-- a line's command is that of its words
of_words : (built : Bool) (line : List ℕ) (c : Command) → line_says built line ≡ Ok (Some c) → command_of built (words_of line) ≡ Ok (Some c)
of_words built line c h = grind arith

-- ---- the lines

abbrev Others : List NumberedCommand → Type 0
Others cs = All (λ n. IsOther n.command) cs

-- what the first line of some says, and what the others say
said : (number : ℕ) (built : Bool) (line : List ℕ) (lines : List (List ℕ)) (cs : List NumberedCommand) → commands_from number built (line ∷ lines) ≡ Ok cs →
    (r : Option Command) × ((line_says built line ≡ Ok r)
    × ((ds : List NumberedCommand) × ((commands_from (number + 1) (is_some r || built) lines ≡ Ok ds) × (cs ≡ numbered_command number r ds))))
said number built line lines cs h =
    let r = came_at (at_line number (line_says built line))
    (λ command. commands_from (number + 1) (is_some command || built) lines >>> λ others. Ok (numbered_command number command others)) cs h in
    let ds = came_at (commands_from (number + 1) (is_some r.0 || built) lines) (λ others. Ok (numbered_command number r.0 others)) cs r.1.1 in
    (r.0, (plain (line_says built line) r.0 r.1.0, (ds.0, (ds.1.0, let e = ds.1.1 in cc))))
  where
    plain : (s : Result (Option Command) ScriptFault) (r : Option Command) → at_line number s ≡ Ok r → s ≡ Ok r
    plain (Ok q) r h = let same : q ≡ r = cc in ap Ok same
    plain (Err e) r h = cc

others : (number : ℕ) (lines : List (List ℕ)) (cs : List NumberedCommand) → commands_from number true lines ≡ Ok cs → Others cs
others number [] cs h = let none : [] ≡ cs = cc in subst Others none (All-nil (λ n. IsOther n.command))
others number (line ∷ lines) cs h =
    let s = said number true line lines cs h in
    subst Others (sym s.1.1.1.1) (one s.0 s.1.1.0 s.1.0 s.1.1.1.0 (λ ds rest. others (number + 1) lines ds rest))
  where
    one : (r : Option Command) (ds : List NumberedCommand) → line_says true line ≡ Ok r → commands_from (number + 1) (is_some r || true) lines ≡ Ok ds →
        ((ds : List NumberedCommand) → commands_from (number + 1) true lines ≡ Ok ds → Others ds) → Others (numbered_command number r ds)
    one None ds says rest more = more ds rest
    one (Some c) ds says rest more =
        All-cons (λ n. IsOther n.command) record { line = number; command = c } ds (later_command (words_of line) c (of_words true line c says)) (more ds rest)

from_first : (number : ℕ) (lines : List (List ℕ)) (cs : List NumberedCommand) → commands_from number false lines ≡ Ok cs → ClusterFirst cs
from_first number [] cs h = let none : [] ≡ cs = cc in subst ClusterFirst none tt
from_first number (line ∷ lines) cs h =
    let s = said number false line lines cs h in
    subst ClusterFirst (sym s.1.1.1.1) (one s.0 s.1.1.0 s.1.0 s.1.1.1.0 (λ ds rest. from_first (number + 1) lines ds rest))
  where
    one : (r : Option Command) (ds : List NumberedCommand) → line_says false line ≡ Ok r → commands_from (number + 1) (is_some r || false) lines ≡ Ok ds →
        ((ds : List NumberedCommand) → commands_from (number + 1) false lines ≡ Ok ds → ClusterFirst ds) → ClusterFirst (numbered_command number r ds)
    one None ds says rest more = more ds rest
    one (Some c) ds says rest more = (first_command (words_of line) c (of_words false line c says), others (number + 1) lines ds rest)

pub cluster_first : (bytes : List ℕ) (cs : List NumberedCommand) → commands_of bytes ≡ Ok cs → ClusterFirst cs
cluster_first bytes cs h = from_first 1 (lines_of bytes) cs h
