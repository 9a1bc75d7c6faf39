-- What the proofs of this crate name most.
pub use Rattle.std.proofs.Common.{◌≡◌, ◌⊎◌, ℕ, List, [], inl, inr, refl, ◌≤◌, ◌+◌, Bool, true, false, nat_lt, if◌then◌else◌, ◌∷◌, ◌++◌, filter, ap, sym, subst}
pub use Rattle.std.proofs.Common.{◌∙◌, arith, append_assoc, zero, suc, Option, None, Some, Result, append-nil, length, rules, Ok, Err, IfOk, IsTrue}
pub use Rattle.std.proofs.lemmas.Bool.{cases_lt, lt-ltb, leb-true}
pub use Rattle.std.specs.List.{AllByRecursion}
pub use Rattle.assise_history.specs.Entries.{EntryValue, opens, calls, crashes, fails, returns}
pub use Rattle.assise_history.specs.Kept.{is_lost, kept, tree_after}
pub use Rattle.assise_history.specs.Legal.{IsLegal, IsNextCall, clients_opened, calls_made}
pub use Rattle.assise_history.specs.declared.call.Call.{Call}
pub use Rattle.assise_machine.specs.Clusters.{machine, region_of}
pub use Rattle.assise_machine.specs.Headline.{history_of, replicated_calls, replicated_to, all_acked}
pub use Rattle.assise_machine.specs.Running.{happens}
pub use Rattle.assise_machine.specs.declared.cluster.ClusterOf.{ClusterOf}
unfoldable pub use Rattle.assise_machine_state.specs.Observed.{observed, world_of}
pub use Rattle.assise_model_events.specs.Events.{Answer, ClusterEvent, back, call_entry, crash, deliver, digest, entries_of, fail, join, open_client, outgoing}
pub use Rattle.assise_model_events.specs.Events.{raise, refill, release_ready, replied, set_hot, try_call, try_fsync, not_yet, refused, all_entries, opened}
pub use Rattle.assise_model_events.specs.Machine.{Machine, begun_as}
pub use Rattle.assise_names.specs.declared.call.Op.{Op}
pub use Rattle.assise_names.specs.declared.call.Op.TheVariants.{Dsync}
pub use Rattle.assise_names.specs.declared.limits.TheConstants.{MOST_CLIENTS, MOST_NODES}
pub use Rattle.assise_names.specs.declared.reply.Reply.{Reply}
pub use Rattle.assise_renewal.specs.Led.{IsOfSort, IsThisCall, IsLedBy, IsOfFirst, IsDsync}
pub use Rattle.assise_renewal.specs.Renewal.{IsBegunBy, IsCallOfFirst, IsOfOneClient, tree_kept, AreUp}
pub use Rattle.assise_renewal.specs.ReplicatedClients.{HasReplicatedAll}
pub use Rattle.assise_rounds.proofs.Shared.Traces.{round_trace, trace_then, trace_told}
pub use Rattle.assise_rounds.specs.Traces.{IsEvent, Nothing, Then, Told}
pub use Rattle.assise_seq_tree.specs.Tree.{Tree, opening}
