-- What the proofs of this crate name most.
pub use Rattle.std.proofs.Common.{◌≡◌, ℕ, suc, true, false, [], ◌∷◌, ◌++◌, refl, ◌≤◌, List, ap, ◌∙◌, arith, ◌≢◌, zero, ◌+◌, ◌-◌, ◌<◌, Bool, not, ◌&&◌, nat_le}
pub use Rattle.std.proofs.Common.{◌==◌, filter, length, Contains, sym, subst, inl, inr, eq-eqb, ne_eqb, eqb-true, ◌↔◌, if◌then◌else◌, append-nil, ◌||◌, Some}
pub use Rattle.std.proofs.Common.{Ok, cond, is_some, map, append_assoc, ◌⊎◌}
pub use Rattle.std.proofs.lemmas.Bool.{cases_Bool, cases_eq, cases_lt, and_parts, and_from, ltb-true, ltb-false, leb-true, le-leb, false_from_ne_true, or_left}
pub use Rattle.std.proofs.lemmas.Bool.{or_right, both_ways, lt-ltb, or_cases, not-true}
pub use Rattle.std.proofs.lemmas.List.Elements.{Contains-append_cases, Contains-append_left, Contains-append_right, filter-append}
pub use Rattle.std.specs.List.{list_any}
pub use Rattle.assise_history.proofs.Shared.Legality.{prefix_in, legal-nil}
pub use Rattle.assise_history.proofs.Shared.LivesOneMore.{down-failed, down-push, down-last, past_syncs-push, SamePlace, one_place, down-nil}
pub use Rattle.assise_history.proofs.Shared.OneMore.{legal-failure, legal-return, legal-open, legal-call, legal-crash, follows_in}
pub use Rattle.assise_history.proofs.Shared.TestedElements.{Passes, passes_from, not_nil, cut_end, passes_at}
pub use Rattle.assise_history.specs.Entries.{EntryValue, opens, calls, crashes, fails, returns}
pub use Rattle.assise_history.specs.Kept.{loses, kept, is_lost, IsRun, exchange, tree_after, IsTaken}
pub use Rattle.assise_history.specs.Legal.{syncs, is_sync, IsDown, IsFair, IsOn, IsPastSyncs, is_failure_of, ClientsAscend, is_call_of, is_crash_of, is_opening}
pub use Rattle.assise_history.specs.Legal.{is_return_of, IsAlive, IsLegal, IsNextCall, MayOpen, calls_made, clients_opened, durability_of, MayCall, MayLose}
pub use Rattle.assise_history.specs.declared.call.Call.{Call}
pub use Rattle.assise_history.specs.declared.call.Loss.{Loss}
pub use Rattle.assise_inode_table.specs.Calls.{step, room_among}
pub use Rattle.assise_inode_table.specs.Contents.{Values, directory, Links}
pub use Rattle.assise_inode_table.specs.Effects.{contains, makes, touched}
pub use Rattle.assise_inode_table.specs.Interaction.{Step}
pub use Rattle.assise_inode_table.specs.Numbers.{inode_number, makes_inode}
pub use Rattle.assise_inode_table.specs.Traces.{NumberedCall, below, Each, exchanges, ops}
pub use Rattle.assise_model_history.specs.Entered.{AddsEntry, IsOpening, IsCall, IsCrash, IsFailure, IsFailureAgain, IsReturn, IsUntold, acquires, NeedsNoEntry}
pub use Rattle.assise_model_history.specs.Lost.{losses_of, IsFirstLost, is_cut, losses_to}
pub use Rattle.assise_model_history.specs.Numbered.{plain_call, kept_numbered, numbered_in, all_after, kept_after, IsKeptAs, is_making_of, made_in}
pub use Rattle.assise_model_history.specs.State.{State, IsNode, begun_with, WasOpened, IsRecorded, down_from}
pub use Rattle.assise_model_history.specs.Traces.{opening, call, crash, failure, comeback, IsTrace, last_of, IsEventful, quiet, IsLossy, WasSynced}
pub use Rattle.assise_model_history.specs.Traces.{EntryHappens, failure_again, numbered_replicated, IsSafe, IsLasting}
pub use Rattle.assise_model_world.proofs.Shared.Possible.{may_open, may_call, may_crash, may_fail, may_join, may_rest, may_acquire}
pub use Rattle.assise_model_world.proofs.Shared.StepLists.{step_sound, step_falls, every_run, run_falls, run_stays}
pub use Rattle.assise_model_world.proofs.Shared.WorldObserved.{received_by_all-end, call_at-mono, call_at-end}
pub use Rattle.assise_model_world.proofs.Shared.WorldObserved.{first-received_by_all, least_of-is, least_of-below}
pub use Rattle.assise_model_world.proofs.Shared.WorldObserved.{least_of-above, received_by_all-below}
pub use Rattle.assise_model_world.specs.Chances.{MayMakeCall, MayFail}
pub use Rattle.assise_model_world.specs.ClientSteps.{Acquires, MakesCall, Opens}
pub use Rattle.assise_model_world.specs.Invariant.{WorldInvariant}
unfoldable pub use Rattle.assise_model_world.specs.Invariant.{Counted}
pub use Rattle.assise_model_world.specs.NodeSteps.{Fails}
unfoldable pub use Rattle.assise_model_world.specs.NodeSteps.{kept_at_failure}
pub use Rattle.assise_model_world.specs.Runs.{fails as fails_node, joins as joins_node, rests as rests_all, Moves, NoneFalls, opens as opens_client, makes_call}
pub use Rattle.assise_model_world.specs.Runs.{crashes as crashes_client, raises_goals, releases, delivers, digests, drops, coalesces, rests, Runs, last}
unfoldable pub use Rattle.assise_model_world.specs.Runs.{StayReplicated}
pub use Rattle.assise_model_world.specs.Staying.{SameClients, SameLogs}
pub use Rattle.assise_model_world.specs.World.{World, Full, IsClient, least_of, opening_values, step_at_home, call_makes_inode, alone_at}
unfoldable pub use Rattle.assise_model_world.specs.World.{end_of_log, received_by_all, first_unreplicated, call_at, undigested_records, view, tree}
unfoldable pub use Rattle.assise_model_world.specs.World.{calls_replicated}
pub use Rattle.assise_names.specs.declared.call.Op.{Op}
pub use Rattle.assise_names.specs.declared.call.Op.TheVariants.{Fsync, Create}
pub use Rattle.assise_names.specs.declared.durability.Durability.{Durability}
pub use Rattle.assise_names.specs.declared.durability.Durability.TheVariants.{Pessimistic}
pub use Rattle.assise_names.specs.declared.reply.Reply.TheVariants.{Done, Error}
pub use Rattle.assise_record.specs.Records.{Ascending, call_of, record_of}
pub use Rattle.assise_seq_tree.specs.Runs.{AreAnswered, tree_after_calls}
pub use Rattle.assise_seq_tree.specs.Tree.{no_entries, opening as opening_tree}
