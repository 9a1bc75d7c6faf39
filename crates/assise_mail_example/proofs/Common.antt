-- What the proofs of this crate name most.
pub use Rattle.std.proofs.Common.{◌≡◌, ◌∙◌, ℕ, List, [], ◌∷◌, sym, subst, ap, append-nil, Option, rules}
pub use Rattle.assise_model_events.specs.Events.{Answer, back, fail, join, refill}
