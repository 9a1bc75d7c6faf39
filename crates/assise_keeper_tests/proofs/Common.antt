-- What the proofs of this crate name most.
pub use Rattle.std.proofs.Common.{◌≡◌, ◌≢◌, ℕ, ◌+◌, ◌≤◌, List, [], ◌∷◌, ◌++◌, refl, sym, ap, ◌∙◌, ne_eqb, eq-eqb, arith, rules, subst, Option, map, Some}
pub use Rattle.assise_history.specs.Entries.{EntryValue, opens, calls}
pub use Rattle.assise_history.specs.Opened.{OpensOnce}
pub use Rattle.assise_keeper.proofs.Shared.PassAdds.{openings-append, extends_by_one}
pub use Rattle.assise_keeper.specs.Clients.{openings, ExtendsByOne, calls_of}
pub use Rattle.assise_keeper.specs.Passes.{seen, client, mine, IsPassOf}
pub use Rattle.assise_keeper_tests.specs.Made.{made}
