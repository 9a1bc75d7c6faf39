-- Which calls of a history are kept, and what a run is.
use Rattle.std.specs.Prelude.{◌≡◌, ℕ, ◌≤◌, Bool, true, false, not, ◌&&◌, ◌==◌, nat_le, if◌then◌else◌, List, [], ◌∷◌, ◌++◌, map, filter}
use Rattle.std.specs.List.{list_any}
use Rattle.assise_seq_tree.specs.Tree.{Tree}
use Rattle.assise_names.specs.declared.call.Op.{Op}
use Rattle.assise_names.specs.declared.reply.Reply.{Reply}
use Rattle.assise_seq_tree.specs.Runs.{AreAnswered, tree_after_calls}
use Rattle.assise_history.specs.declared.call.Call.{Call}
use Rattle.assise_history.specs.declared.call.Loss.{Loss}
use Rattle.assise_history.specs.Entries.{EntryValue, opens, calls, crashes, fails, returns}

-- the failure loses the call
abbrev pub loses : List Loss → Call → Bool
loses losses x = list_any (λ l. (l.client == x.client) && nat_le l.first x.number) losses

-- a failure among the entries loses the call
abbrev pub is_lost : List EntryValue → Call → Bool
is_lost [] x = false
is_lost (fails n losses ∷ es) x = if loses losses x then true else is_lost es x
is_lost (_ ∷ es) x = is_lost es x

-- the calls that no later failure loses, in order
abbrev pub kept : List EntryValue → List Call
kept [] = []
kept (calls x ∷ es) = if is_lost es x then kept es else x ∷ kept es
kept (_ ∷ es) = kept es

-- ---- the same by what stands in a history

-- a later failure lists the call's client from it or from an earlier call on
pub record IsTaken (later : List EntryValue) (x : Call) : Type 0 where
  pub node : ℕ
  pub losses : List Loss
  pub before : List EntryValue
  pub behind : List EntryValue
  pub split : later ≡ before ++ fails node losses ∷ behind
  pub loss : Loss
  pub lower : List Loss
  pub higher : List Loss
  pub listed : losses ≡ lower ++ loss ∷ higher
  pub client : loss.client ≡ x.client
  pub first : loss.first ≤ x.number

-- the call was answered, and no later failure takes it
pub record Stays (h : List EntryValue) (x : Call) : Type 0 where
  pub before : List EntryValue
  pub later : List EntryValue
  pub split : h ≡ before ++ calls x ∷ later
  pub safe : IsTaken later x → ⊥

-- ---- one entry more, and runs

-- the calls that are kept after an entry more
abbrev pub kept_more : List Call → EntryValue → List Call
kept_more cs (calls x) = cs ++ x ∷ []
kept_more cs (fails n losses) = filter (λ x. not (loses losses x)) cs
kept_more cs _ = cs

-- what a call asked, and what it was answered
abbrev pub exchange : Call → Op × Reply
exchange x = (x.op, x.reply)

-- each reply is the tree's, one call after another
abbrev pub IsRun : Tree → List Call → Type 0
IsRun t cs = AreAnswered t (map exchange cs)

-- the tree that a list of calls leaves
abbrev pub tree_after : Tree → List Call → Tree
tree_after t cs = tree_after_calls t (map (λ x. x.op) cs)
