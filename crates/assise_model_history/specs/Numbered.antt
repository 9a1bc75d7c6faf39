-- The calls of a history, each with the number of the inode that it makes, if it makes one.
-- Assise (OSDI 2020), section 3 (prefix crash consistency, fail-over, node recovery).
use Rattle.std.specs.Prelude.{◌≡◌, ℕ, Bool, false, ◌&&◌, ◌==◌, if◌then◌else◌, List, [], ◌∷◌, ◌++◌, filter, length}
use Rattle.assise_history.specs.declared.call.Call.{Call}
use Rattle.assise_history.specs.Entries.{EntryValue, opens, calls, crashes, fails, returns}
use Rattle.assise_history.specs.Kept.{is_lost}
use Rattle.assise_inode_table.specs.Numbers.{inode_number, makes_inode}
use Rattle.assise_inode_table.specs.Traces.{NumberedCall}

-- a call of the client that made an inode
abbrev pub is_making_of : ℕ → EntryValue → Bool
is_making_of c (calls x) = (c == x.client) && makes_inode x.op x.reply
is_making_of c (opens d n u) = false
is_making_of c (crashes d) = false
is_making_of c (fails n losses) = false
is_making_of c (returns n) = false

-- how many inodes the client made, by calls that were lost since too
abbrev pub made_in : ℕ → List EntryValue → ℕ
made_in c h = length (filter (is_making_of c) h)

-- a call after a prefix of a history: it has the number of the next inode that its client makes
abbrev pub numbered_in : List EntryValue → Call → NumberedCall
numbered_in prefix x = record { client = x.client; number = x.number; op = x.op; reply = x.reply; fresh = inode_number x.client (made_in x.client prefix) }

-- the call as a history has it
abbrev pub plain_call : NumberedCall → Call
plain_call x = record { client = x.client; number = x.number; op = x.op; reply = x.reply }

-- the calls among the entries after a prefix
abbrev pub all_after : List EntryValue → List EntryValue → List NumberedCall
all_after prefix [] = []
all_after prefix (calls x ∷ es) = numbered_in prefix x ∷ all_after (prefix ++ calls x ∷ []) es
all_after prefix (opens c n u ∷ es) = all_after (prefix ++ opens c n u ∷ []) es
all_after prefix (crashes c ∷ es) = all_after (prefix ++ crashes c ∷ []) es
all_after prefix (fails n losses ∷ es) = all_after (prefix ++ fails n losses ∷ []) es
all_after prefix (returns n ∷ es) = all_after (prefix ++ returns n ∷ []) es

abbrev pub all_numbered : List EntryValue → List NumberedCall
all_numbered h = all_after [] h

-- those of them that no later failure loses; their numbers are those that they have among all
abbrev pub kept_after : List EntryValue → List EntryValue → List NumberedCall
kept_after prefix [] = []
kept_after prefix (calls x ∷ es) = if is_lost es x then kept_after (prefix ++ calls x ∷ []) es else numbered_in prefix x ∷ kept_after (prefix ++ calls x ∷ []) es
kept_after prefix (opens c n u ∷ es) = kept_after (prefix ++ opens c n u ∷ []) es
kept_after prefix (crashes c ∷ es) = kept_after (prefix ++ crashes c ∷ []) es
kept_after prefix (fails n losses ∷ es) = kept_after (prefix ++ fails n losses ∷ []) es
kept_after prefix (returns n ∷ es) = kept_after (prefix ++ returns n ∷ []) es

abbrev pub kept_numbered : List EntryValue → List NumberedCall
kept_numbered h = kept_after [] h

-- the call was answered after a prefix that numbered it, and no later failure loses it
pub record IsKeptAs (h : List EntryValue) (y : NumberedCall) : Type 0 where
  pub before : List EntryValue
  pub later : List EntryValue
  pub plain : Call
  pub split : h ≡ before ++ calls plain ∷ later
  pub safe : is_lost later plain ≡ false
  pub numbered : y ≡ numbered_in before plain
