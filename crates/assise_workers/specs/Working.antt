-- What is seen of a worker.
-- Assise (OSDI 2020), section 3 (a process of each node replicates and digests).
use Rattle.std.specs.Prelude.{◌≡◌, ℕ, zero, suc, List, [], ◌∷◌, ◌++◌}
use Rattle.assise_history.specs.Entries.{EntryValue}
use Rattle.assise_keeper.specs.declared.keeper.Keeper.{Keeper}
use Rattle.assise_keeper.specs.Clients.{Extends}
use Rattle.assise_keeper.specs.Passes.{seen}
use Rattle.assise_keeper.specs.Working.{pass_of}
use Rattle.assise_workers.specs.declared.nodes.NodeWorkers.{NodeWorkers}
use Rattle.assise_workers.specs.declared.worker.Worker.{Worker}

-- nodes 1 to this
abbrev pub nodes_up_to : ℕ → List ℕ
nodes_up_to zero = []
nodes_up_to (suc n) = nodes_up_to n ++ suc n ∷ []

module _ {S : Type 0} where
  -- the keeper that it is lent, and what it has seen of the history
  abbrev pub keeper_at : Worker S → Keeper S
  keeper_at w = w.keeper.now

  abbrev pub seen_at : Worker S → List EntryValue
  seen_at w = seen (pass_of w.pass)

  -- the node whose workers these are
  abbrev pub node_at : NodeWorkers S → ℕ
  node_at ws = ws.node

  -- it is a worker of the same keeper, and has seen what it had seen, and maybe more
  pub record GoesOn (old new : Worker S) : Type 0 where
    pub keeper : keeper_at new ≡ keeper_at old
    pub seen : Extends (seen_at new) (seen_at old)
