-- What the proofs of this crate name most.
pub use Rattle.std.proofs.Common.{◌≡◌, ℕ, true, not, ◌&&◌, Option, ap, sym, subst, ◌∙◌, ◌≢◌, ◌⊎◌, ◌+◌, ◌<◌, ◌≤◌, ◌==◌, Bool, false, List, [], ◌∷◌, ◌++◌, length}
pub use Rattle.std.proofs.Common.{None, Some, Result, Err, inl, inr, refl, arith, eq-eqb, ◌||◌, append-nil, nat_le, suc, if◌then◌else◌, zero, take}
pub use Rattle.std.proofs.Common.{slice_index_or, ◌-◌, Ok, get_or, filter, drop, is_some, IfErr, vec_capacity, rules}
pub use Rattle.std.proofs.Math.Logic.{∥∥₁_elim, ∥∥₁_map}
pub use Rattle.std.proofs.Props.{props}
pub use Rattle.std.proofs.lemmas.Bool.{and_parts, not-true, true≢false, and_cases, both_ways, eqb-true, or_cases, cases_Bool, cases_eq, ne_eqb, or_right}
pub use Rattle.std.proofs.lemmas.Bool.{le-leb, lt-leb, leb-false, leb-true, or_left, and_from, false_from_ne_true, false≢true}
pub use Rattle.std.proofs.lemmas.List.{append_assoc, take_more, length-append, length-map, length-take, length_push, drop_all, take_all}
pub use Rattle.std.proofs.lemmas.Result.{err_from_is_err_and}
pub use Rattle.std.specs.Coded.{Coded-set, coded_option, coded_ℕ}
pub use Rattle.std.specs.List.{list_any}
pub use Rattle.assise_digest.specs.Region.{LogHasRoom, ReceivedLog, RegionValue, regrouped_from, region_with_client}
pub use Rattle.assise_history.specs.Entries.{EntryValue, calls, crashes, opens}
pub use Rattle.assise_history.specs.Legal.{durability_of, calls_made, is_sync}
pub use Rattle.assise_inode_plan.specs.Leased.{AreLeased, LeaseView as Leased, first_missing, for_reading, for_writing, wants, LeaseView}
pub use Rattle.assise_inode_plan.specs.Planning.{Plan, missing, plan_lacking, ready, visited_plan_of, step_in, shown}
pub use Rattle.assise_inode_table.specs.Effects.{contains, makes, touched}
pub use Rattle.assise_inode_table.specs.Interaction.{Step}
pub use Rattle.assise_inode_table.specs.Numbers.{inode_number}
pub use Rattle.assise_inode_table.specs.Traces.{NumberedCall}
pub use Rattle.assise_lease_table.specs.Answers.{IsRaisedAnswer, AnswerAll, clients_of}
pub use Rattle.assise_lease_table.specs.Cuts.{are_once, cut_in, is_asked, is_of}
pub use Rattle.assise_lease_table.specs.Leases.{serves, lease_of, new_lease, without_holder, Among, holders, is_to_ask}
pub use Rattle.assise_lease_table.specs.Modes.{strong, stronger}
pub use Rattle.assise_lease_table.specs.Tables.{SameRevokers}
pub use Rattle.assise_lease_table.specs.declared.lease.Asked.{Asked}
pub use Rattle.assise_lease_table.specs.declared.lease.Lease.{Lease}
pub use Rattle.assise_lease_tree.proofs.Shared.Lookups.{with_own, without_other, without_own}
pub use Rattle.assise_lease_tree.specs.Levels.{is_revoked, in_way, raised_mode, is_busy}
unfoldable pub use Rattle.assise_lease_tree.specs.Levels.{clients_granted}
pub use Rattle.assise_lease_tree.specs.Trees.{KeepsRevokers, levels_of, stored_by}
pub use Rattle.assise_lease_tree.specs.TwoLevels.{IsGranted, SameLevels, TwoLevels, is_free_for, IsRevoked, LevelsInvariant, IsFreed, IsIdle, EnrolsAt}
pub use Rattle.assise_lease_tree.specs.TwoLevels.{IsAskedFor, ReleasesLease}
pub use Rattle.assise_machine_calls.specs.Answers.{turn_answer, begun_at}
pub use Rattle.assise_machine_calls.specs.Asked.{CutsAreAnswers, clients_log, AsksThem, client_log}
pub use Rattle.assise_machine_calls.specs.Leasing.{IsReady, next_call, room_fault, GotLeases, IsVisited, NeverSyncs, next_step}
pub use Rattle.assise_machine_calls.specs.Releasing.{FreesAmong, LetsSomeGo, is_early, is_ripe}
pub use Rattle.assise_machine_calls.specs.SyncCalls.{op_of}
pub use Rattle.assise_machine_state.proofs.Shared.CallObserved.{call_areas, call_seen, call_shaped}
pub use Rattle.assise_machine_state.proofs.Shared.Fullness.{lives_unfailed, has_log, home_full, seen_full, number_client, full_seen, lives_number}
pub use Rattle.assise_machine_state.proofs.Shared.HotCapacities.{call_keeps, log_keeps, begun_keeps}
pub use Rattle.assise_machine_state.proofs.Shared.ItemSeen.{client_same, length-with, client_here}
pub use Rattle.assise_machine_state.proofs.Shared.NodesAway.{away_refused, full_served, none_refused, away_other}
pub use Rattle.assise_machine_state.proofs.Shared.Noted.{call_noted, leases_noted, crash_noted, noted_known, running_number, goal_noted, open_noted}
pub use Rattle.assise_machine_state.proofs.Shared.OwnLogs.{home_log, own_of_unfailed, own_end, own_log as has_own_log, own_log, listed_is}
pub use Rattle.assise_machine_state.proofs.Shared.ShapedClients.{areas_stay, leases_held, leases_shaped, letting_go_shaped}
pub use Rattle.assise_machine_state.specs.Changes.{after_call, after_leases, after_crash, after_coalescing, after_regrouping, after_open, after_asking}
pub use Rattle.assise_machine_state.specs.Changes.{with_goals, after_letting_go, after_goal, goal_of}
pub use Rattle.assise_machine_state.specs.ClientValues.{ClientValue, client_in, with_call, with_client, crashed_at, cut_of, with_goal, opened_on}
pub use Rattle.assise_machine_state.specs.ClientValues.{cut_once_asked}
pub use Rattle.assise_machine_state.specs.Invariant.{CutsInvariant, ShapeInvariant, SameRevoked, AreLeft, AreAnswers}
pub use Rattle.assise_machine_state.specs.NodeValues.{HasLog, log_in, with_call_in, with_log_in, begun_log, no_region, with_logs_begun, with_logs_ended}
pub use Rattle.assise_machine_state.specs.NodeValues.{without_log_of, hot_capacities}
unfoldable pub use Rattle.assise_machine_state.specs.NodeValues.{region_in}
pub use Rattle.assise_machine_state.specs.Observed.{inodes_read, stands_full, own_node}
unfoldable pub use Rattle.assise_machine_state.specs.Observed.{observed, own_seen, world_of, is_full_in}
pub use Rattle.assise_machine_state.specs.Places.{IsNumber}
unfoldable pub use Rattle.assise_machine_state.specs.Places.{item_at}
pub use Rattle.assise_machine_state.specs.StateValues.{StateValue, standings}
unfoldable pub use Rattle.assise_machine_state.specs.StateValues.{leases_of}
pub use Rattle.assise_machine_state.specs.Whole.{machine_of, value_of}
pub use Rattle.assise_manager.specs.Standings.{full_nodes, Standing, down, full, phase_of, returning, standing_of}
pub use Rattle.assise_manager.specs.Whole.{membership}
pub use Rattle.assise_model_events.proofs.Shared.CallKeeps.{calling_keeps}
pub use Rattle.assise_model_events.proofs.Shared.EachEvent.{event_keeps}
pub use Rattle.assise_model_events.proofs.Shared.Faultless.{client_runs, first_none}
pub use Rattle.assise_model_events.proofs.Shared.SyncKeeps.{noting_keeps, syncing_keeps, dsync_refused, fsync_refused}
pub use Rattle.assise_model_events.specs.ClientEvents.{Syncing, is_noted, is_refused, is_replicating, is_synced, lacks_memory, Calling, HasServingLeases}
pub use Rattle.assise_model_events.specs.ClientEvents.{call_of_client, is_answered, IsMissing, is_awaited, Crashing, is_crashed, Gets, Granted, IsAnswered}
pub use Rattle.assise_model_events.specs.ClientEvents.{IsAwaited, IsFull, IsSpent, IsTried, KeepsGranted, is_full, is_spent, Opening, is_opened, Noting}
pub use Rattle.assise_model_events.specs.Dsyncs.{is_coalesced, Coalescing, coalesced_from}
pub use Rattle.assise_model_events.specs.Events.{Answer, refused, replied, not_yet, crash as crash_event, crashed, opened, released, open_client}
pub use Rattle.assise_model_events.specs.Events.{release_ready as let_ready_go}
pub use Rattle.assise_model_events.specs.Faults.{call_fault, client_fault, fault_if, is_too_large, or_else, open_fault, unless_full}
pub use Rattle.assise_model_events.specs.Happenings.{Dsyncing, Fsyncing, Trying}
pub use Rattle.assise_model_events.specs.Machine.{Machine, MachineInvariant, state_of}
pub use Rattle.assise_model_events.specs.NodeEvents.{Freed, Frees, leases_freed, Gone, LetsGo, is_ready, leases_after, Releasing}
pub use Rattle.assise_model_history.proofs.Shared.NumberBounds.{records_below, calls_below}
pub use Rattle.assise_model_leases.specs.Handing.{Grants, ReleasesReady, HoldsAsLeased}
pub use Rattle.assise_model_leases.specs.Leases.{Leases, client_lease, is_held, is_written, AreHeld, AreLeases, IsRevokedLease}
pub use Rattle.assise_model_members.specs.Returns.{OtherAreasStay}
pub use Rattle.assise_model_world.specs.ClientSteps.{MakesCall, is_for_writing, RaisesGoals}
pub use Rattle.assise_model_world.specs.World.{World, call_makes_inode, step_at_home, received_by_all, Full}
unfoldable pub use Rattle.assise_model_world.specs.World.{end_of_log, undigested_records, view, digested_by_all}
pub use Rattle.assise_names.specs.declared.call.Op.{Op}
pub use Rattle.assise_names.specs.declared.call.Op.TheVariants.{Dsync, Fsync, Create, Mkdir, Read as ReadCall, Write as WriteCall, Truncate, Rename, Unlink}
pub use Rattle.assise_names.specs.declared.call.Op.TheVariants.{Rmdir, List as ListCall, Stat}
pub use Rattle.assise_names.specs.declared.durability.Durability.{Durability}
pub use Rattle.assise_names.specs.declared.durability.Durability.TheVariants.{Pessimistic, Optimistic}
pub use Rattle.assise_names.specs.declared.limits.TheConstants.{MOST_CLIENTS}
pub use Rattle.assise_names.specs.declared.mode.Mode.{Mode}
pub use Rattle.assise_names.specs.declared.mode.Mode.TheVariants.{Read, Write}
pub use Rattle.assise_names.specs.declared.refusal.Refusal.{Refusal}
pub use Rattle.assise_names.specs.declared.refusal.Refusal.TheVariants.{InodesSpent, LogFull, OutOfMemory, TooLarge, BadClient, ClientGone, NodeDown}
pub use Rattle.assise_names.specs.declared.reply.Reply.TheVariants.{Done}
pub use Rattle.assise_private_log.specs.NumberedLog.{NumberedLog, end as log_end, IsNumberedLog, records_from, is_border, end}
pub use Rattle.assise_record.specs.Records.{has_some}
pub use Rattle.assise_record.specs.Touched.{touched_by}
pub use Rattle.assise_record.specs.declared.effect.Effect.{Effect}
