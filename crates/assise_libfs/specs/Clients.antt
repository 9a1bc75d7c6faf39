-- What is seen of a client's file system.
use Rattle.std.specs.Prelude.{◌≡◌, ℕ, List}
use Rattle.assise_history.specs.Entries.{EntryValue}
use Rattle.assise_keeper.specs.declared.keeper.Keeper.{Keeper}
use Rattle.assise_keeper.specs.declared.pass.Pass.{Pass}
use Rattle.assise_keeper.specs.declared.view.Opens.{Opens}
use Rattle.assise_keeper.specs.Passes.{opens, seen}
use Rattle.assise_libfs.specs.declared.libfs.LibFs.{LibFs}

module _ {S : Type 0} where
  -- the keeper that it is lent, and its pass
  abbrev pub keeper_of : LibFs S → Keeper S
  keeper_of l = l.keeper.now

  abbrev pub pass_of : LibFs S → Pass S
  pass_of l = l.pass

  -- its client, and the node that it was opened on
  abbrev pub client_of : LibFs S → ℕ
  client_of l = l.client

  abbrev pub node_of : LibFs S → ℕ
  node_of l = l.node

  -- how many turns a call of it has
  abbrev pub limit_of : LibFs S → ℕ
  limit_of l = l.limit

  -- what it has seen of the history
  abbrev pub seen_by : LibFs S → List EntryValue
  seen_by l = seen l.pass

  -- whether its pass may open clients
  abbrev pub opens_of : LibFs S → Opens
  opens_of l = opens l.pass

  -- it is the same client, at the same node and keeper, with the same turns and right
  pub record IsSameClient (old new : LibFs S) : Type 0 where
    pub client : client_of new ≡ client_of old
    pub node : node_of new ≡ node_of old
    pub keeper : keeper_of new ≡ keeper_of old
    pub limit : limit_of new ≡ limit_of old
    pub right : opens_of new ≡ opens_of old
