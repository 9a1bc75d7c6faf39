-- The commands that begin with a keyword: the word of each, and what the words behind it mean.
use Rattle.std.specs.Prelude.{ℕ, Bool, if◌then◌else◌, List, [], ◌∷◌, Result, Ok, Err, codes}
use Rattle.std.specs.Bool.{nat_eq}
use Rattle.std.specs.Cmp.Lexicographic.{pointwise}
use Rattle.assise_names.specs.declared.durability.Durability.{Durability}
use Rattle.assise_names.specs.declared.durability.Durability.TheVariants.{Pessimistic, Optimistic}
use Rattle.assise_names.specs.declared.limits.TheConstants.{MOST_NODES}
use Rattle.assise_fault_script.specs.declared.command.Command.{Command}
use Rattle.assise_fault_script.specs.declared.command.Command.TheVariants.{Cluster, Manual, Open, Carry, Digest, Release, Crash, Fail, Back, Refill, Join, Raise, Link, Hot, Tree, History, Check}
use Rattle.assise_fault_script.specs.declared.command.Keyword as first
use Rattle.assise_fault_script.specs.declared.command.Keyword.TheVariants.{Cluster as for_cluster, Manual as for_manual, Open as for_open, Carry as for_carry, Digest as for_digest, Release as for_release, Crash as for_crash, Fail as for_fail, Back as for_back, Refill as for_refill, Join as for_join, Raise as for_raise, Link as for_link, Hot as for_hot, Tree as for_tree, History as for_history, Check as for_check}
use Rattle.assise_fault_script.specs.declared.command.LinkKind.{LinkKind}
use Rattle.assise_fault_script.specs.declared.command.LinkKind.TheVariants.{Perfect, Lose, Repeat, Delay, Cut, Fault}
use Rattle.assise_fault_script.specs.declared.command.RevokerKind.{RevokerKind}
use Rattle.assise_fault_script.specs.declared.command.RevokerKind.TheVariants.{Least, Whole, Eights}
use Rattle.assise_fault_script.specs.declared.fault.ScriptFault.{ScriptFault}
use Rattle.assise_fault_script.specs.declared.fault.ScriptFault.TheVariants.{UnknownCommand, WrongCount, BadKind, BadLink, BadMode}
use Rattle.assise_fault_script.specs.Fault.{◌>>=◌, look_up}
use Rattle.assise_fault_script.specs.Number.{limited, number_of}

-- the keyword that a word is
abbrev pub keyword_of : List ℕ → Result first.Keyword ScriptFault
keyword_of = look_up UnknownCommand
    ((codes "cluster", for_cluster) ∷ (codes "manual", for_manual) ∷ (codes "open", for_open) ∷ (codes "carry", for_carry) ∷
    (codes "digest", for_digest) ∷ (codes "release", for_release) ∷ (codes "crash", for_crash) ∷ (codes "fail", for_fail) ∷
    (codes "back", for_back) ∷ (codes "refill", for_refill) ∷ (codes "join", for_join) ∷ (codes "raise", for_raise) ∷
    (codes "link", for_link) ∷ (codes "hot", for_hot) ∷ (codes "tree", for_tree) ∷ (codes "history", for_history) ∷
    (codes "check", for_check) ∷ [])

-- the revoker that a word names
abbrev pub kind_of : List ℕ → Result RevokerKind ScriptFault
kind_of = look_up BadKind ((codes "least", Least) ∷ (codes "whole", Whole) ∷ (codes "eights", Eights) ∷ [])

abbrev pub says_cut : List ℕ → Bool
says_cut word = pointwise nat_eq word (codes "cut")

-- the kind of link that a word names, but for `cut`
abbrev pub link_kind_of : List ℕ → Result LinkKind ScriptFault
link_kind_of = look_up BadLink
    ((codes "perfect", Perfect) ∷ (codes "lose", Lose) ∷ (codes "repeat", Repeat) ∷ (codes "delay", Delay) ∷ (codes "fault", Fault) ∷ [])

-- a number of nodes, a log of 8 to 4,096 and 1 to 4,096 hot
abbrev pub cluster_of : List ℕ → List ℕ → List ℕ → Result Command ScriptFault
cluster_of nodes log hot = limited 1 MOST_NODES nodes >>= λ n. limited 8 4096 log >>= λ l. limited 1 4096 hot >>= λ h. Ok (Cluster n l h)

-- the one mode that is named
abbrev pub mode_of : List ℕ → Result Durability ScriptFault
mode_of word = if pointwise nat_eq word (codes "optimistic") then Ok Optimistic else Err BadMode

abbrev pub open_of : List ℕ → List ℕ → Result Command ScriptFault
open_of node kind = number_of node >>= λ n. kind_of kind >>= λ k. Ok (Open n k Pessimistic)

abbrev pub open_in_mode_of : List ℕ → List ℕ → List ℕ → Result Command ScriptFault
open_in_mode_of node kind mode = number_of node >>= λ n. kind_of kind >>= λ k. mode_of mode >>= λ m. Ok (Open n k m)

-- a node, a revoker and, where a third word says so, how the client's fsyncs are served
abbrev pub opening_of : List (List ℕ) → Result Command ScriptFault
opening_of (node ∷ kind ∷ []) = open_of node kind
opening_of (node ∷ kind ∷ mode ∷ []) = open_in_mode_of node kind mode
opening_of _ = Err WrongCount

-- any kind but `cut`, which wants one word more
abbrev pub uncut_link_of : List ℕ → List ℕ → Result Command ScriptFault
uncut_link_of node name = if says_cut name then Err WrongCount else (number_of node >>= λ n. link_kind_of name >>= λ k. Ok (Link n k))

-- three words are right with `cut` alone
abbrev pub cut_link_of : List ℕ → List ℕ → List ℕ → Result Command ScriptFault
cut_link_of node name bytes = if says_cut name then (number_of node >>= λ n. number_of bytes >>= λ k. Ok (Link n (Cut k))) else Err WrongCount

-- a node and its link: three words where the second is `cut`, else two
abbrev pub node_link_of : List (List ℕ) → Result Command ScriptFault
node_link_of (node ∷ name ∷ []) = uncut_link_of node name
node_link_of (node ∷ name ∷ bytes ∷ []) = cut_link_of node name bytes
node_link_of _ = Err WrongCount

-- 1 to 4,096 inodes may be hot
abbrev pub hot_capacity_of : List ℕ → List ℕ → Result Command ScriptFault
hot_capacity_of node capacity = number_of node >>= λ n. limited 1 4096 capacity >>= λ c. Ok (Hot n c)

abbrev pub hot_of : List (List ℕ) → Result Command ScriptFault
hot_of (node ∷ capacity ∷ []) = hot_capacity_of node capacity
hot_of _ = Err WrongCount

-- a row for each keyword: the count of its words, and what they mean
abbrev pub keyword_command : first.Keyword → List (List ℕ) → Result Command ScriptFault
keyword_command for_cluster (nodes ∷ log ∷ hot ∷ []) = cluster_of nodes log hot
keyword_command for_manual [] = Ok Manual
keyword_command for_open words = opening_of words
keyword_command for_carry (node ∷ []) = number_of node >>= λ n. Ok (Carry n)
keyword_command for_digest (node ∷ []) = number_of node >>= λ n. Ok (Digest n)
keyword_command for_release [] = Ok Release
keyword_command for_crash (client ∷ []) = number_of client >>= λ n. Ok (Crash n)
keyword_command for_fail (node ∷ []) = number_of node >>= λ n. Ok (Fail n)
keyword_command for_back (node ∷ []) = number_of node >>= λ n. Ok (Back n)
keyword_command for_refill (node ∷ []) = number_of node >>= λ n. Ok (Refill n)
keyword_command for_join (node ∷ []) = number_of node >>= λ n. Ok (Join n)
keyword_command for_raise (node ∷ []) = number_of node >>= λ n. Ok (Raise n)
keyword_command for_link words = node_link_of words
keyword_command for_hot words = hot_of words
keyword_command for_tree (node ∷ []) = number_of node >>= λ n. Ok (Tree n)
keyword_command for_history [] = Ok History
keyword_command for_check [] = Ok Check
keyword_command _ _ = Err WrongCount
