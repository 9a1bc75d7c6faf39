-- What the proofs of this crate name most.
pub use Rattle.std.proofs.Common.{◌≡◌, ◌≢◌, ℕ, ◌+◌, ◌<◌, eqb, ◌⊎◌, Bool, true, false, cond, List, [], ◌∷◌, ◌++◌, length, sym, refl, ap, ◌∙◌, subst, inl, inr}
pub use Rattle.std.proofs.Common.{⊎_elim, Option, Some, None, ne_eqb, eq-eqb, arith, append-nil, drop, append_assoc, length-append, set, get_or, rules}
pub use Rattle.assise_history.specs.Entries.{EntryValue, opens, calls, crashes, fails, returns}
pub use Rattle.assise_history.specs.Opened.{OpensOnce, is_opening_of}
pub use Rattle.assise_keeper.specs.Clients.{openings, openings_of, calls_by, client_after, MayAddAll, Extends, ExtendsByOne, MayOpenClients, MayGive}
pub use Rattle.assise_keeper.specs.Passes.{taken_at, IsPassOf, view, state_at, taken}
pub use Rattle.assise_keeper.specs.Rule.{HalfFits, HasRight, Opener, IsLed, alone, anyone, Owner, Boxed, StatePlace, not_in, home, out, AreLed, IsAt, IsHalfLed}
pub use Rattle.assise_keeper.specs.Rule.{IsStage, CoversHalf, IsPassAt, IsKept}
pub use Rattle.assise_keeper.specs.Views.{half, clientless, newcomer, beginning, spent, together, with_right, with_no_client, own_of, guest_of, holding, given}
pub use Rattle.assise_keeper.specs.declared.view.Half.{Half}
pub use Rattle.assise_keeper.specs.declared.view.Opens.{Opens}
pub use Rattle.assise_keeper.specs.declared.view.Opens.TheVariants.{Alone, Never, AmongOthers}
pub use Rattle.assise_keeper.specs.declared.view.Stage.{Stage}
pub use Rattle.assise_keeper.specs.declared.view.Stage.TheVariants.{Holding, Fresh, Idle}
pub use Rattle.atomic_table.specs.Table.{State, step, Act, keeps, takes, gives, stepped, carried_after, Valid, Allows, Splits, Joins, opening, rest}
pub use lib.ListN.{get_elem?}
pub use mathlib.Core.Option.{some, some-ne-none, some-injective, none}
