-- What the proofs of this crate name most.
pub use Rattle.std.proofs.Common.{◌≡◌, ◌≢◌, ℕ, ◌+◌, ◌≤◌, arith, List, [], ◌∷◌, ◌++◌, refl, sym, ap, subst, ◌∙◌, inl, inr, rules}
pub use Rattle.assise_history.specs.Entries.{EntryValue, opens, calls}
pub use Rattle.assise_libfs.specs.Calling.{told_call}
pub use Rattle.assise_names.specs.declared.call.Op.TheVariants.{Fsync}
pub use Rattle.assise_names.specs.declared.reply.Reply.TheVariants.{Done}
