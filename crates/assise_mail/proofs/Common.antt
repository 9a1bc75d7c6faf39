-- What the proofs of this crate name most.
pub use Rattle.std.proofs.Common.{◌≡◌, ℕ, Bool, true, false, cond, ◌==◌, List, [], ◌∷◌, ◌++◌, length, Result, Ok, Err, refl, ap, sym, subst, ◌∙◌, append-nil}
pub use Rattle.std.proofs.Common.{arith, drop_of_length-le, inl, inr, nat_le, Contains, ◌⊎◌, zero, suc, ◌+◌, ◌<◌, not, if◌then◌else◌, filter, append_assoc}
pub use Rattle.std.proofs.Common.{eq-eqb, true≢false, take, drop, get_or, IfErr, nat_lt, lt-ltb, rules, le_refl}
pub use Rattle.std.proofs.lemmas.Bool.{ne_eqb, cases_Bool, false_from_ne_true}
pub use Rattle.std.proofs.lemmas.List.Elements.{Contains-append_right, Contains-append_cases, Contains-append_left, filter-append}
pub use Rattle.assise_history.proofs.Shared.ClientCounts.{made_append, next_opened, opened_within}
pub use Rattle.assise_history.proofs.Shared.Legality.{fits_in, legal_run, prefix_in, along}
pub use Rattle.assise_history.proofs.Shared.Lost.{kept-append, lost, taken, stays}
pub use Rattle.assise_history.proofs.Shared.Runs.{is_lost-append, kept-push, run-last}
pub use Rattle.assise_history.specs.Entries.{EntryValue, calls, opens, fails}
pub use Rattle.assise_history.specs.Kept.{IsRun, tree_after, IsTaken, is_lost, kept, Stays}
pub use Rattle.assise_history.specs.Legal.{IsLegal, IsNextCall, calls_made, IsPastSyncs, durability_of, is_sync, Fits, IsFair, MayCall, MayLose, is_failure_of}
pub use Rattle.assise_history.specs.Legal.{syncs}
pub use Rattle.assise_history.specs.declared.call.Call.{Call}
pub use Rattle.assise_libfs.specs.Clients.{client_of, seen_by, IsSameClient}
pub use Rattle.assise_mail.specs.Delivery.{AllLeave, IsDelivery, Leaves, only_looks, CallsLeave, IsDraftedAndMoved, IsMessageDelivered}
pub use Rattle.assise_mail.specs.DueCalls.{AnyTurns, ComesToElse, StopsAt, replies_of, ops_of}
pub use Rattle.assise_names.specs.Path.{same_path}
pub use Rattle.assise_names.specs.declared.call.Op.{Op}
pub use Rattle.assise_names.specs.declared.call.Op.TheVariants.{Create, Mkdir, Read, Write, Truncate, Rename, Unlink, Rmdir, List as ListCall, Stat, Fsync}
pub use Rattle.assise_names.specs.declared.call.Op.TheVariants.{Dsync}
pub use Rattle.assise_names.specs.declared.durability.Durability.{Durability}
pub use Rattle.assise_names.specs.declared.reply.Reply.TheVariants.{Done, Error, Bytes}
pub use Rattle.assise_names.specs.declared.reply.TreeError.{TreeError}
pub use Rattle.assise_names.specs.declared.reply.TreeError.TheVariants.{Exists, TooBig, NoEnt}
pub use Rattle.assise_seq_tree.proofs.Shared.Writes.{bytes_after, wrote, reads}
pub use Rattle.assise_seq_tree.specs.Answer.{◌>>=◌, answer, as_directory, create_answer, last_name, parent_of, reply_and_tree, rename_answer, room_at, room_for}
pub use Rattle.assise_seq_tree.specs.Answer.{write_answer, file_at, entries_at, may_rename, may_unlink, may_rmdir, IsDisjointFrom, read_answer}
pub use Rattle.assise_seq_tree.specs.Contents.{overwritten, is_within, resized, bytes_from}
pub use Rattle.assise_seq_tree.specs.Tree.{Tree, Entries, dir, file, put, no_entries, without, opening}
unfoldable pub use Rattle.assise_seq_tree.specs.Tree.{at}
pub use Rattle.assise_workers.specs.Told.{SeesAll}
