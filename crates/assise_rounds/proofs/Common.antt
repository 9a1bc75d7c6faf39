-- What the proofs of this crate name most.
pub use Rattle.std.proofs.Common.{◌≡◌, ◌≤◌, ◌<◌, ◌⊎◌, ℕ, suc, ◌+◌, min, List, [], ◌∷◌, ◌++◌, length, get_or, slice_index_or, zero, true, false, inl, inr, refl}
pub use Rattle.std.proofs.Common.{ap, sym, subst, ◌∙◌, arith, Bool, not, map, append-nil, Result, None, Some, Ok, Err, is_ok, append_assoc, length-append}
pub use Rattle.std.proofs.Common.{Option, is_none, slice_get, ◌-◌, slice_set, rules, ◌^◌}
pub use Rattle.std.proofs.Math.Bool.{or-false, or_assoc}
pub use Rattle.std.proofs.lemmas.Bool.{cases_lt, cases_eq}
pub use Rattle.std.proofs.lemmas.Result.{err_from_is_err_and}
pub use Rattle.std.specs.Prelude.{◌==◌, ◌||◌, ⊤}
pub use Rattle.assise_inode_table.specs.Traces.{ops}
pub use Rattle.assise_link.specs.Kinds.{Kind, perfect}
pub use Rattle.assise_machine.specs.Clusters.{AreAcked, machine}
pub use Rattle.assise_machine_calls.specs.Answers.{turn_answer}
pub use Rattle.assise_manager.specs.NodeLevels.{level_of, newest}
pub use Rattle.assise_model_events.specs.Events.{Answer, ClusterEvent, sent, outgoing, received, refused, began, left, digest, not_yet, release_ready}
pub use Rattle.assise_model_events.specs.Events.{all_entries, entries_of, try_call, digested, released}
pub use Rattle.assise_model_events.specs.Faults.{node_fault, unless_full}
pub use Rattle.assise_model_events.specs.Happenings.{AllHappen, Trying, Happens}
pub use Rattle.assise_model_events.specs.Machine.{Machine, MachineInvariant, state_of}
pub use Rattle.assise_model_events.specs.NodeEvents.{Delivering, Sending, Digesting, Releasing}
pub use Rattle.assise_model_history.specs.Traces.{numbered_replicated}
pub use Rattle.assise_model_world.specs.World.{World, received_by_all, first_unreplicated, alone_at}
pub use Rattle.assise_names.specs.declared.call.Op.{Op}
pub use Rattle.assise_names.specs.declared.limits.TheConstants.{MOST_NODES}
pub use Rattle.assise_names.specs.declared.refusal.Refusal.{Refusal}
pub use Rattle.assise_names.specs.declared.refusal.Refusal.TheVariants.{BadNode, WrongPhase, Busy, LogFull}
pub use Rattle.assise_names.specs.declared.reply.Reply.{Reply}
pub use Rattle.assise_record.specs.LogFrame.{LogFrame}
pub use Rattle.assise_rounds.specs.CallTries.{FindsFull, InVain, IsTriedOut, MakesRoom, TriesInVain, WaitsOnce, waits_in_vain, full_in_vain, settles_at_last}
pub use Rattle.assise_rounds.specs.CallTries.{spends_all, ends_full, ends_waiting}
pub use Rattle.assise_rounds.specs.NodeLinks.{FaithfulAt}
pub use Rattle.assise_rounds.specs.Returning.{ComesBack, Fills, FillsOne, FillsUp, IsFilled, StopsFilling, begins, gets_all, is_filled, is_stopped, lacks_none}
pub use Rattle.assise_rounds.specs.Rounds.{Carried, deliveries, did_work, is_work, letter, RoundsOver, AreCarried, AreSame, DeliversOver, IsSame, Replicates}
pub use Rattle.assise_rounds.specs.Rounds.{delivery, is_taken_in, taken, EachFull, TakesTurn, UnlessAtFault, WithWork, is_refused, replicates, DigestsOnce}
pub use Rattle.assise_rounds.specs.Rounds.{IfFull, ReleasesOnce, IsRound}
pub use Rattle.assise_rounds.specs.Traces.{Told, IsEventTrace, IsEvent, Nothing, Then}
pub use Rattle.assise_rounds.specs.Trying.{Awaits, TriesOften, is_busy, is_settled, is_stuck, settled_answer}
pub use Rattle.assise_seq_tree.specs.Runs.{tree_after_calls}
pub use Rattle.assise_seq_tree.specs.Tree.{opening}
