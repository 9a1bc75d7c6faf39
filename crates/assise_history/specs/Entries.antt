-- An entry of a history as clauses see it.
use Rattle.std.specs.Prelude.{ℕ, List}
use Rattle.assise_names.specs.declared.durability.Durability.{Durability}
use Rattle.assise_history.specs.declared.call.Call.{Call}
use Rattle.assise_history.specs.declared.call.Loss.{Loss}

pub data EntryValue : Type 0 where
  -- a client was opened on a node, to have its fsyncs served in one way
  opens : ℕ → ℕ → Durability → EntryValue
  -- a call was answered
  calls : Call → EntryValue
  -- a client crashed
  crashes : ℕ → EntryValue
  -- a node failed, and its clients lost calls
  fails : ℕ → List Loss → EntryValue
  -- a node was taken in again
  returns : ℕ → EntryValue

-- what happened, in order, and for how many more entries there is room
pub record Recorded : Type 0 where
  pub events : List EntryValue
  pub room : ℕ
