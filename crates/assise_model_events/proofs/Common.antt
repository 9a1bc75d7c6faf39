-- What the proofs of this crate name most.
pub use Rattle.std.proofs.Common.{◌≡◌, ◌≢◌, ◌↔◌, ◌⊎◌, inl, inr, ℕ, zero, suc, ◌<◌, ◌≤◌, true, List, [], ◌∷◌, Contains, Some, None, refl, ap, sym, subst, ◌∙◌}
pub use Rattle.std.proofs.Common.{arith, max, nat_le, false, ◌++◌, length, append-nil, ◌+◌, length-append, ◌-◌, min, not, drop, take, ◌==◌, cond, if◌then◌else◌}
pub use Rattle.std.proofs.Common.{Option, eq-eqb, ◌&&◌, ◌||◌, Bool, Result, Ok, append_assoc}
pub use Rattle.std.proofs.lemmas.Bool.{cases_eq, both_ways, ne_eqb, and_parts, cases_Bool, cases_lt, le-leb, true≢false, lt-ltb, leb-false, or_right, leb-true}
pub use Rattle.std.proofs.lemmas.Bool.{false≢true, cond-true, cond-false, lt-leb, and_from, and_left, and_right, or_cases}
pub use Rattle.std.proofs.lemmas.List.{length-map, length-drop, length-take, nil_from_length}
pub use Rattle.std.proofs.lemmas.Option.{none-some, same_Some}
pub use Rattle.std.specs.List.{slice_set, list_any, slice_get}
pub use Rattle.std.specs.Ordering.{nat_cmp}
pub use Rattle.assise_history.proofs.Shared.ClientCounts.{durability-still, early}
pub use Rattle.assise_history.specs.Entries.{crashes, opens, calls, EntryValue, fails, returns}
pub use Rattle.assise_history.specs.Kept.{kept, tree_after, IsRun}
pub use Rattle.assise_history.specs.Legal.{is_sync, syncs, durability_of, calls_made, IsFair}
unfoldable pub use Rattle.assise_history.specs.Legal.{IsLegal}
pub use Rattle.assise_history.specs.declared.call.Loss.{Loss}
pub use Rattle.assise_inode_table.specs.Contents.{regular, directory, Content, Links, Values}
pub use Rattle.assise_inode_table.specs.Effects.{contains, touched, value_after, makes}
pub use Rattle.assise_inode_table.specs.Numbers.{inode_number}
pub use Rattle.assise_inode_table.specs.Traces.{NumberedCall, Each}
pub use Rattle.assise_lease_table.specs.Leases.{new_lease, revoke, lease_of, without_holder, is_own, serves, Among}
pub use Rattle.assise_lease_table.specs.declared.lease.Lease.{Lease}
pub use Rattle.assise_lease_tree.proofs.Shared.Lookups.{without_other, without_own}
pub use Rattle.assise_lease_tree.specs.Levels.{lives, is_busy, is_revoked, nodes_released}
unfoldable pub use Rattle.assise_lease_tree.specs.Levels.{in_way, clients_granted, nodes_granted}
pub use Rattle.assise_lease_tree.specs.TwoLevels.{is_free_for, IsIdle, TwoLevels, nobody}
pub use Rattle.assise_manager.proofs.Shared.Lawful.{raised_lawful, all_full_lawful}
pub use Rattle.assise_manager.proofs.Shared.Nodes.{never, one_full_less}
pub use Rattle.assise_manager.specs.Changes.{join_fault, is_returning, stale_again, failure_fault, failure_fault_of, failed_as, all_full}
pub use Rattle.assise_manager.specs.Changes.{failed as failed_members, back as back_members, stale_of, raised as with_raised, filling_fault, filling_fault_of}
pub use Rattle.assise_manager.specs.Changes.{join_fault_of, return_fault, back_as, copied_as, fulls}
pub use Rattle.assise_manager.specs.Membership.{Membership, lowest_full}
pub use Rattle.assise_manager.specs.Standings.{standing_of, Standing, with_standing, full_from, full_nodes}
pub use Rattle.assise_manager.specs.Standings.Standing.{full, down, returning}
pub use Rattle.assise_model_events.specs.ClientEvents.{Granted, Gets, Calling, Syncing, is_answered, is_awaited, is_spent, is_full, is_refused, lacks_memory}
pub use Rattle.assise_model_events.specs.ClientEvents.{is_synced, is_replicating, last_leases, last_world, call_of_client, goal_of_sync, Crashing, IsMissing}
pub use Rattle.assise_model_events.specs.ClientEvents.{IsTried, Opening, KeepsGranted, IsAnswered, IsAwaited, is_crashed, is_opened, Noting, HasServingLeases}
pub use Rattle.assise_model_events.specs.ClientEvents.{KeepsMembers, IsOpened, IsCrashed, is_noted, AnswersSync, IsReplicating, IsNoted, IsFirstMissing}
pub use Rattle.assise_model_events.specs.Dsyncs.{Coalescing, IsCoalescing, coalesced_from, is_coalesced, new_groups, full_elsewhere, most_of}
pub use Rattle.assise_model_events.specs.Events.{Answer, digested, failed, joined, not_yet, received, refused, replied, call_entry, crashed, opened, crash}
pub use Rattle.assise_model_events.specs.Events.{open_client, ClusterEvent, try_call, try_fsync, outgoing, deliver, digest, release_ready, set_hot, fail, back}
pub use Rattle.assise_model_events.specs.Events.{refill, join, raise, entries_of, released, began, left, raised, hot_set, sent, is_call, all_entries}
pub use Rattle.assise_model_events.specs.Faults.{place_after, call_fault, client_fault, fault_if, is_too_large, open_fault, unless_full, node_fault}
pub use Rattle.assise_model_events.specs.Faults.{IsTimelyDelivery, delivery_fault, is_client, new_records, or_else}
pub use Rattle.assise_model_events.specs.Happenings.{Leads, Dsyncing, Fsyncing, Happens, Trying, AllHappen}
pub use Rattle.assise_model_events.specs.Machine.{Machine, MachineInvariant, Adds, state_of, with_hot, begun_as}
pub use Rattle.assise_model_events.specs.MemberEvents.{Failing, Joining, is_failed, is_failed_again, is_joined, Returning, Refilling, Raising, IsFailed}
pub use Rattle.assise_model_events.specs.MemberEvents.{IsFailedAgain, IsRefilled, count_of, stale_at, is_back, is_raised, is_refilled, is_whole}
pub use Rattle.assise_model_events.specs.NodeEvents.{Delivering, Digesting, Releasing, is_released, is_ready, most_digested, undigested_to, IsDelivered}
pub use Rattle.assise_model_events.specs.NodeEvents.{part_of, DigestsNext, DigestsTo, IsDigested, Sending, SettingHot, Freed, Frees, leases_after, leases_freed}
pub use Rattle.assise_model_events.specs.NodeEvents.{world_after, frames_to, is_delivered, is_sent, is_set, is_stale, undigested, Gone, LetsGo, IsReleased}
pub use Rattle.assise_model_events.specs.NodeEvents.Digesting.{is_digested}
pub use Rattle.assise_model_events.specs.Reached.{Comes, IsReached}
pub use Rattle.assise_model_history.proofs.Shared.FailureList.{exactly_lost, cut_there, is_left, least_kept, others_of}
pub use Rattle.assise_model_history.proofs.Shared.LossReached.{create_op, IsNew, opened_new, creation, first_step, step_is}
pub use Rattle.assise_model_history.proofs.Shared.LossReached.{create_step, creates, empty_root, no_links, of_either}
pub use Rattle.assise_model_history.proofs.Shared.LossReached.{sees_root, made_number, may_create}
pub use Rattle.assise_model_history.proofs.Shared.TracesKeep.{trace_sound, trace_recorded, begun_sound, begun_recorded, node_of, of_node, trace_lasts, kept_of}
pub use Rattle.assise_model_history.specs.Entered.{raises_goals, coalesces, NeedsNoEntry, acquires}
pub use Rattle.assise_model_history.specs.Entered.NeedsNoEntry.{delivers, digests, drops, rests, releases}
pub use Rattle.assise_model_history.specs.Lost.{IsFirstLost, losses_of}
pub use Rattle.assise_model_history.specs.Numbered.{plain_call}
pub use Rattle.assise_model_history.specs.State.{State, IsRecorded, IsNode, begun_with, down_from}
pub use Rattle.assise_model_history.specs.Traces.{EntryHappens, call, IsTrace, last_of, quiet, opening, IsLasting, IsSafe}
pub use Rattle.assise_model_history.specs.Traces.EntryHappens.{failure, failure_again, comeback}
pub use Rattle.assise_model_leases.proofs.Shared.ClientEnds.{fail_keeps as leases_fail, crash_keeps}
pub use Rattle.assise_model_leases.proofs.Shared.Possible.{may_open_at, may_call_under, may_ask, may_crash_with}
pub use Rattle.assise_model_leases.proofs.Shared.Possible.{may_grant, with_at, becomes, holding, holds_them}
pub use Rattle.assise_model_leases.proofs.Shared.QuietLeases.{call_keeps, logs_keep, drop_keeps, coalesced_keeps, revoked_holder, holder_home, open_keeps}
pub use Rattle.assise_model_leases.specs.Chances.{MayCallUnder}
pub use Rattle.assise_model_leases.specs.Handing.{Grants, asked_goal, FailsWithLeases as LeasesFail, CallsUnder, ReleasesReady}
pub use Rattle.assise_model_leases.specs.Leases.{Leases, client_lease, IsRevokedLease, AreLeases, is_held, is_written}
pub use Rattle.assise_model_members.proofs.Shared.DigestNoted.{areas_keep, keeps_areas, digest_keeps}
pub use Rattle.assise_model_members.proofs.Shared.NodeChanged.{again_keeps, back_keeps, refill_keeps}
pub use Rattle.assise_model_members.proofs.Shared.NodeStandings.{lowest_stands, set_here, set_else, returning_is, same_stale, none_failed}
pub use Rattle.assise_model_members.proofs.Shared.StepsPossible.{may_digest, may_fail, may_fail_again, may_list}
pub use Rattle.assise_model_members.proofs.Shared.StepsPossible.{may_come_back, may_fill_one, may_refill, may_rejoin}
pub use Rattle.assise_model_members.specs.Members.{AreMembers, since_of}
pub use Rattle.assise_model_members.specs.Returns.{OtherAreasStay}
pub use Rattle.assise_model_world.proofs.Shared.CallKeeps.{call_reply, call_dropped}
pub use Rattle.assise_model_world.proofs.Shared.ClientsStaying.{raise_sound, acquire_sound, open_dropped}
pub use Rattle.assise_model_world.proofs.Shared.DropKeeps.{drop_dropped}
pub use Rattle.assise_model_world.proofs.Shared.FailureKeeps.{fail_sound, contains-filter, filter-contains}
pub use Rattle.assise_model_world.proofs.Shared.QuietSteps.{still_dropped, end-same, received_by_all-same}
pub use Rattle.assise_model_world.proofs.Shared.StepLists.{step_sound, begun_dropped}
pub use Rattle.assise_model_world.proofs.Shared.WorldObserved.{least_of-same, received_by_all-below, end_is, digested_by_all-first, least_of-is, least_of-below}
pub use Rattle.assise_model_world.proofs.Shared.WorldObserved.{received_by_all-end, first-received_by_all, least_of-above, least_of-end}
pub use Rattle.assise_model_world.specs.ClientSteps.{MakesCall, RaisesGoals, Acquires, is_for_writing, Crashes, Opens}
pub use Rattle.assise_model_world.specs.Coalescing.{Coalesces, GetsAll, HasNone}
pub use Rattle.assise_model_world.specs.Invariant.{WorldInvariant, IsOrdered}
unfoldable pub use Rattle.assise_model_world.specs.Invariant.{AreDropped}
pub use Rattle.assise_model_world.specs.NodeSteps.{Digests, Drops, Fails, Rests, Joins, Delivers}
unfoldable pub use Rattle.assise_model_world.specs.NodeSteps.{kept_at_failure}
pub use Rattle.assise_model_world.specs.Runs.{fails as fails_node, begun}
pub use Rattle.assise_model_world.specs.Staying.{SameLogs, SameClients, SameNode, SameNodes}
pub use Rattle.assise_model_world.specs.World.{World, step_at_home, Full, call_makes_inode, first_unreplicated, steps}
unfoldable pub use Rattle.assise_model_world.specs.World.{end_of_log, received_by_all, records_between, digested_by_all, call_at, view, undigested_records}
pub use Rattle.assise_names.specs.declared.call.Op.{Op}
pub use Rattle.assise_names.specs.declared.call.Op.TheVariants.{Dsync, Create, Fsync, Stat, Mkdir, Truncate, Rename, Unlink, Rmdir, List as ListCall}
pub use Rattle.assise_names.specs.declared.call.Op.TheVariants.{Unlink as UnlinkCall}
pub use Rattle.assise_names.specs.declared.durability.Durability.{Durability}
pub use Rattle.assise_names.specs.declared.durability.Durability.TheVariants.{Optimistic, Pessimistic}
pub use Rattle.assise_names.specs.declared.limits.TheConstants.{MOST_CLIENTS}
pub use Rattle.assise_names.specs.declared.mode.Mode.{Mode}
pub use Rattle.assise_names.specs.declared.mode.Mode.TheVariants.{Read, Write}
pub use Rattle.assise_names.specs.declared.refusal.Refusal.{Refusal}
pub use Rattle.assise_names.specs.declared.refusal.Refusal.TheVariants.{Busy, BadClient, NodeDown, TooLarge, ClientGone, LogFull, OutOfMemory, WrongPhase}
pub use Rattle.assise_names.specs.declared.refusal.Refusal.TheVariants.{BadNode, LastNode, InodesSpent, StaleMessage}
pub use Rattle.assise_names.specs.declared.reply.Reply.{Reply}
pub use Rattle.assise_names.specs.declared.reply.Reply.TheVariants.{Done}
pub use Rattle.assise_record.specs.Groups.{AllHaveEffects, all_coalesced, are_whole}
pub use Rattle.assise_record.specs.LogFrame.{LogFrame}
pub use Rattle.assise_record.specs.LogRecord.{LogRecord}
pub use Rattle.assise_record.specs.Records.{has_some, all_effects, record_of}
pub use Rattle.assise_seq_tree.specs.Tree.{opening as opening_tree, same_name}
