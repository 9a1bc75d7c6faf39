-- The tree that is printed of a node.
-- Assise (OSDI 2020), section 3 (CC-NVM: prefix crash consistency, replication along a chain).
use Rattle.std.specs.Prelude.{◌≡◌, ℕ, List}
use Rattle.assise_seq_tree.specs.Tree.{Tree, opening}
use Rattle.assise_history.specs.Entries.{EntryValue}
use Rattle.assise_history.specs.Kept.{tree_after}
use Rattle.assise_history.specs.Legal.{IsPastSyncs}
use Rattle.assise_machine.specs.Headline.{kept_below}

-- the tree of the calls of a history that no failure took, each client's below a bound that lies behind its last answered sync
pub record IsReplicatedTree (h : List EntryValue) (t : Tree) : Type 0 where
  pub bound : ℕ → ℕ
  pub synced : (c : ℕ) → IsPastSyncs h (record { client = c; first = bound c })
  pub tree : t ≡ tree_after opening (kept_below bound h)
