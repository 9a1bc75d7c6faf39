-- What a clause says of a pass.
use Rattle.std.specs.Prelude.{◌≡◌, ℕ, List, [], ◌∷◌, Option, None, Some}
use Rattle.assise_history.specs.Entries.{EntryValue}
use Rattle.assise_keeper.specs.declared.view.View.{View}
use Rattle.assise_keeper.specs.declared.view.Opens.{Opens}
use Rattle.assise_keeper.specs.declared.view.Stage.{Stage}
use Rattle.assise_keeper.specs.declared.view.Stage.TheVariants.{Fresh, Idle, Holding}
use Rattle.assise_keeper.specs.declared.pass.Pass.{Pass}
use Rattle.assise_keeper.specs.declared.keeper.Keeper.{Keeper}
use Rattle.assise_keeper.specs.Clients.{calls_of}

abbrev pub taken_at : {S : Type 0} → Stage S → List EntryValue
taken_at Fresh = []
taken_at Idle = []
taken_at (Holding h s) = h

abbrev pub state_at : {S : Type 0} → Stage S → Option S
state_at Fresh = None
state_at Idle = None
state_at (Holding h s) = Some s

module _ {S : Type 0} where
  abbrev pub view : Pass S → View S
  view p = p.seat.me.0

  -- what the pass has seen of the history
  abbrev pub seen : Pass S → List EntryValue
  seen p = p.seat.me.0.own.seen

  -- the state that it has seen last, whose history that is
  abbrev pub last : Pass S → Option S
  last p = p.seat.me.0.own.last

  -- its client, if it has one
  abbrev pub client : Pass S → Option ℕ
  client p = p.seat.me.0.own.client

  -- whether it may open clients
  abbrev pub opens : Pass S → Opens
  opens p = p.seat.me.0.own.opens

  -- the answered calls of its client, in order: exactly the client's calls in what the pass has seen
  abbrev pub mine : Pass S → List EntryValue
  mine p = calls_of (client p) (seen p)

  -- the history that it took, while it holds
  abbrev pub taken : Pass S → List EntryValue
  taken p = taken_at p.seat.me.0.stage

  -- the state that it took, as it was then, while it holds
  abbrev pub state_taken : Pass S → Option S
  state_taken p = state_at p.seat.me.0.stage

  -- both are passes of one keeper
  abbrev pub AreOfOneKeeper : Pass S → Pass S → Type 0
  AreOfOneKeeper p q = q.seat.table_id ≡ p.seat.table_id

  -- it holds nothing
  abbrev pub IsIdle : Pass S → Type 0
  IsIdle p = (p.seat.me.1 ≡ []) × (p.seat.me.0.stage ≡ Idle)

  -- it is a pass of this keeper and holds nothing
  abbrev pub IsPassOf : Keeper S → Pass S → Type 0
  IsPassOf k p = (p.seat.table_id ≡ k.table.shared.table_id) × (p.seat.me.1 ≡ []) × (p.seat.me.0.stage ≡ Idle)

  -- it is a pass of this keeper and holds a state that was this one, with the history h, when it was taken
  abbrev pub IsHoldingThis : Keeper S → Pass S → List EntryValue → S → Type 0
  IsHoldingThis k p h s = (p.seat.table_id ≡ k.table.shared.table_id) × (p.seat.me.1 ≡ (0, None) ∷ []) × (p.seat.me.0.stage ≡ Holding h s)

  -- it is a pass of this keeper and holds the state
  abbrev pub IsHolding : Keeper S → Pass S → Type 0
  IsHolding k p = (s : S) × IsHoldingThis k p (taken p) s

  -- it is the first pass of this keeper, before the state is in
  abbrev pub IsFirst : Keeper S → Pass S → Type 0
  IsFirst k p = (p.seat.table_id ≡ k.table.shared.table_id) × (p.seat.me.1 ≡ []) × (p.seat.me.0.stage ≡ Fresh)
