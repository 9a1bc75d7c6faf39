-- What the proofs of this crate name most.
pub use Rattle.std.proofs.Common.{◌↔◌, Bool, true, IsTrue, Result, Ok, Err, IfOk, ◌≡◌, ℕ, zero, suc, ◌-◌, ◌<◌, List, [], ◌∷◌, Option, Some, None, length, map}
pub use Rattle.std.proofs.Common.{replicate, slice_set, slice_index_or, slice_get, refl, ap, arith, ◌∙◌, nat_le, false, not, ◌&&◌, ◌||◌, ◌==◌, if◌then◌else◌}
pub use Rattle.std.proofs.Common.{◌++◌, filter, sym, subst, inl, inr, append_assoc, append-nil, ◌+◌, ◌≤◌, reverse, rules, vec_len, take}
pub use Rattle.std.proofs.Math.Logic.{∥∥₁_elim}
pub use Rattle.std.proofs.lemmas.Bool.{cases_Bool, eq-eqb, eqb-true, false_from_ne_true, and_parts, leb-true, lt-leb}
pub use Rattle.std.specs.Prelude.{⊤}
pub use Rattle.assise_files.specs.FilesSeen.{cluster_seen, tree_seen, links_seen, most_tries}
pub use Rattle.assise_files.specs.LostChanges.{TakesLastKept, change_of, is_change, says_done, is_lost_change, is_sync_call, lost_changes, tree_with}
pub use Rattle.assise_files.specs.LostSearch.{AreFound, IsNumbered, is_call_to, are_taken, is_taken_from}
pub use Rattle.assise_files.specs.Redo.{MakesEach, MakesAgain, makes_all, stops_at, unmade, finds_none}
pub use Rattle.assise_files.specs.declared.redo.LostChange.{LostChange}
pub use Rattle.assise_history.proofs.Shared.ClientCounts.{made_before, number_in}
pub use Rattle.assise_history.proofs.Shared.Runs.{is_lost-append, kept-call, tree_after-push}
pub use Rattle.assise_history.specs.Entries.{EntryValue, opens, calls, crashes, fails, returns}
pub use Rattle.assise_history.specs.Kept.{IsRun, is_lost, kept, loses, tree_after}
pub use Rattle.assise_history.specs.Legal.{IsLegal, is_failure_of, calls_made}
pub use Rattle.assise_history.specs.declared.call.Call.{Call}
pub use Rattle.assise_link.specs.TestLinks.{kind_of_link}
pub use Rattle.assise_model_events.specs.Machine.{Machine}
pub use Rattle.assise_names.specs.declared.call.Op.{Op}
pub use Rattle.assise_names.specs.declared.call.Op.TheVariants.{Create, Mkdir, Read, Write, Truncate, Rename, Unlink, Rmdir, List as ListCall, Stat, Fsync}
pub use Rattle.assise_names.specs.declared.call.Op.TheVariants.{Dsync}
pub use Rattle.assise_names.specs.declared.limits.TheConstants.{MOST_NODES}
pub use Rattle.assise_names.specs.declared.refusal.Refusal.{Refusal}
pub use Rattle.assise_names.specs.declared.reply.Reply.{Reply}
pub use Rattle.assise_names.specs.declared.reply.Reply.TheVariants.{Done}
pub use Rattle.assise_rounds.proofs.Shared.CallTrace.{call_trace}
pub use Rattle.assise_rounds.proofs.Shared.Traces.{trace_of, trace_told, nothing_trace, then_trace}
pub use Rattle.assise_rounds.specs.CallTries.{IsTriedOut, ends_full, ends_waiting, settles_at_last, spends_all, FindsFull, InVain, MakesRoom, TriesInVain}
pub use Rattle.assise_rounds.specs.CallTries.{WaitsOnce, full_in_vain, waits_in_vain}
pub use Rattle.assise_rounds.specs.NodeLinks.{FaithfulAt}
pub use Rattle.assise_rounds.specs.Traces.{Told, IsEvent, Nothing, Then, IsEventTrace}
pub use Rattle.assise_seq_tree.specs.Answer.{◌>>=◌, answer, entries_at, file_at, may_rename, may_rmdir, may_unlink, reply_and_tree, room_at}
pub use Rattle.assise_seq_tree.specs.Tree.{Tree, at, opening}
