-- What the proofs of this crate name most.
pub use Rattle.std.proofs.Common.{◌≡◌, ◌∙◌, ℕ, ◌≤◌, List, [], ◌++◌, take, drop, append-nil, ap, sym, subst, Ok, inr}
pub use Rattle.assise_record.specs.Spelling.{BeginsWith, SpellsFrame, spelling}
