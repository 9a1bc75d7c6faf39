-- What passes know, and how the steps change it.
use Rattle.std.specs.Prelude.{ℕ, List, [], Option, None, Some}
use Rattle.assise_history.specs.Entries.{EntryValue}
use Rattle.assise_keeper.specs.declared.view.Half.{Half}
use Rattle.assise_keeper.specs.declared.view.Opens.{Opens}
use Rattle.assise_keeper.specs.declared.view.Opens.TheVariants.{Never, Alone}
use Rattle.assise_keeper.specs.declared.view.Stage.{Stage}
use Rattle.assise_keeper.specs.declared.view.Stage.TheVariants.{Fresh, Idle, Holding}
use Rattle.assise_keeper.specs.declared.view.View.{View}
use Rattle.assise_keeper.specs.Clients.{client_after, added}

module _ {S : Type 0} where
  abbrev pub half : List EntryValue → Option S → Option ℕ → Opens → Half S
  half h s c o = record { seen = h; last = s; client = c; opens = o }

  -- nothing was seen, there is no client, and none may be opened
  abbrev pub clientless : Half S
  clientless = half [] None None Never

  -- a pass that meets nobody
  abbrev pub unmet : Half S → Stage S → View S
  unmet v stage = record { own = v; guest = clientless; stage = stage }

  -- the first pass, before the state is in
  abbrev pub newcomer : View S
  newcomer = unmet clientless Fresh

  -- the first pass puts the state in, with this history: it has seen it, and alone may open clients
  abbrev pub beginning : List EntryValue → S → View S
  beginning h s = unmet (half h (Some s) None Alone) (Holding h s)

  -- what is left of a pass that another took in
  abbrev pub spent : View S
  spent = unmet clientless Idle

  -- it has this right, and all else as before
  abbrev pub with_right : Opens → View S → View S
  with_right o v = record { own = half v.own.seen v.own.last v.own.client o; guest = v.guest; stage = v.stage }

  -- it has seen the same, and has no client and this right
  abbrev pub with_no_client : Opens → View S → View S
  with_no_client o v = unmet (half v.own.seen v.own.last None o) Idle

  -- a pass that took another in, until they part
  abbrev pub together : View S → View S → View S
  together v w = record { own = v.own; guest = w.own; stage = v.stage }

  abbrev pub own_of : View S → View S
  own_of v = unmet v.own v.stage

  abbrev pub guest_of : View S → View S
  guest_of v = unmet v.guest Idle

  -- it took the state, with this history
  abbrev pub holding : View S → List EntryValue → S → View S
  holding v h s = record { own = v.own; guest = v.guest; stage = Holding h s }

  -- it gave the state back, whose history went from the first to the second
  abbrev pub given : View S → List EntryValue → List EntryValue → S → View S
  given v taken h s = record { own = half h (Some s) (client_after v.own.client (added taken h)) v.own.opens; guest = half h (Some s) v.guest.client v.guest.opens; stage = Idle }
