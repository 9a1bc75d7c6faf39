-- What a console is seen as.
use Rattle.std.specs.Prelude.{ℕ, Bool, false, List, replicate}
use Rattle.assise_names.specs.declared.limits.TheConstants.{MOST_NODES}
use Rattle.assise_fault_script.specs.declared.command.RevokerKind.{RevokerKind}
use Rattle.assise_fault_script.specs.declared.command.RevokerKind.TheVariants.{Least, Whole, Eights}
use Rattle.assise_link.specs.Kinds.{Kind, perfect}
use Rattle.assise_model_events.specs.Machine.{Machine, begun_as}

-- how many revokers are left of each kind
pub record Stocks : Type 0 where
  pub least : ℕ
  pub whole : ℕ
  pub eights : ℕ

abbrev pub stock_of : RevokerKind → Stocks → ℕ
stock_of Least s = s.least
stock_of Whole s = s.whole
stock_of Eights s = s.eights

abbrev pub with_stock : RevokerKind → ℕ → Stocks → Stocks
with_stock Least n s = record s { least = n }
with_stock Whole n s = record s { whole = n }
with_stock Eights n s = record s { eights = n }

pub record ConsoleState : Type 0 where
  -- the cluster
  pub machine : Machine
  pub stock : Stocks
  -- how often a call is tried at most
  pub turns : ℕ
  -- a call is tried once, and no round is made
  pub manual : Bool
  -- of which kind each node's link is, from node 1 on
  pub links : List Kind

-- the links of all nodes that there may be, all perfect
abbrev pub perfect_links : List Kind
perfect_links = replicate MOST_NODES perfect

-- a cluster in which nothing happened
abbrev pub begun_console : (nodes log hot : ℕ) → Stocks → (turns : ℕ) → ConsoleState
begun_console nodes log hot stock turns = record { machine = begun_as nodes log hot; stock = stock; turns = turns; manual = false; links = perfect_links }

-- all else is as it was
abbrev pub with_machine : ConsoleState → Machine → ConsoleState
with_machine s m = record { machine = m; stock = s.stock; turns = s.turns; manual = s.manual; links = s.links }
