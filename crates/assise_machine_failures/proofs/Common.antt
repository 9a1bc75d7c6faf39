-- What the proofs of this crate name most.
pub use Rattle.std.proofs.Common.{List, ◌≡◌, false, ℕ, true, if◌then◌else◌, length, Option, Some, None, inl, inr, refl, ap, sym, subst, ◌∙◌, append-nil, arith}
pub use Rattle.std.proofs.Common.{◌≢◌, zero, suc, ◌-◌, ◌<◌, ◌≤◌, ◌==◌, [], ◌∷◌, slice_index_or, eq-eqb, ◌+◌, nat_lt, ◌++◌, map, take, drop, get_or, slice_get}
pub use Rattle.std.proofs.Common.{Bool, true≢false, Ok, Err, ◌↔◌, Result, IsOk, IfOk, ◌&&◌, min, take-suc, not, filter, eqb-true, ◌⊎◌, is_some, option_copied}
pub use Rattle.std.proofs.Math.Bridge.{le_prop}
pub use Rattle.std.proofs.Math.Logic.{∥∥₁_elim, ∥∥₁_map}
pub use Rattle.std.proofs.Props.{props}
pub use Rattle.std.proofs.lemmas.Bool.{cases_eq, cases_Bool, ne_eqb, le-ltb, lt-ltb, ltb-false, cases_lt, or_cases, or_left, or_right}
pub use Rattle.std.proofs.lemmas.List.{length-map, map-append, get_or_past, take_all, get_or_append_left, get_or_push, length_push, take-append-drop}
pub use Rattle.std.proofs.lemmas.List.{nil_from_length}
pub use Rattle.std.proofs.lemmas.Option.{none-some, same_Some, slice_get_within, slice_get_cases}
pub use Rattle.std.proofs.lemmas.Result.{err_from_is_err_and}
pub use Rattle.std.specs.Coded.{Coded, codes, Coded-set, coded_bool, coded_option, coded_ℕ}
pub use Rattle.std.specs.FinSet.{contains-from_list_nat, len-empty, contains-empty, empty_of_len}
pub use Rattle.std.specs.Option.{option_map}
pub use Rattle.std.specs.Ordering.{nat_cmp}
pub use Rattle.std.specs.VecDeque.Iter.{deque_iter_rest}
pub use Rattle.assise_digest.specs.Region.{HasClient, RegionValue, log_of, up_to_number, ReceivedLog, IsQuiet, log_at, no_log, with_inode, without_clients}
pub use Rattle.assise_history.specs.Entries.{EntryValue, fails, returns}
pub use Rattle.assise_history.specs.declared.call.Loss.{Loss}
pub use Rattle.assise_inode_table.specs.Contents.{Content, coded_content}
pub use Rattle.assise_inode_table.specs.Effects.{touched, contains}
pub use Rattle.assise_lease_table.specs.Leases.{Among, revoke, lease_of}
pub use Rattle.assise_lease_table.specs.declared.lease.Asked.{Asked}
pub use Rattle.assise_lease_tree.specs.Trees.{levels_of}
pub use Rattle.assise_lease_tree.specs.TwoLevels.{TwoLevels}
pub use Rattle.assise_machine_failures.specs.Answers.{loss_of, refilling_answer, returning_answer, failing_answer, joining_answer}
pub use Rattle.assise_machine_failures.specs.Copies.{LosesStale, nodes_without, without_copies, AllLose, AreReturning}
pub use Rattle.assise_machine_failures.specs.Listing.{kept_inodes, kept_to, filled_from, is_number, kept_in}
pub use Rattle.assise_machine_state.proofs.Shared.AwayObserved.{members_areas, members_rest, members_shaped, inode_else, inode_here, inode_rests, inode_shaped}
pub use Rattle.assise_machine_state.proofs.Shared.CutSeen.{count_over, home_number}
pub use Rattle.assise_machine_state.proofs.Shared.Fullness.{full_seen, node_number, seen_full, full_is, no_log_there}
pub use Rattle.assise_machine_state.proofs.Shared.HotCapacities.{region_keeps, failure_keeps}
pub use Rattle.assise_machine_state.proofs.Shared.ItemSeen.{client_else, less_one, length-with, with-with}
pub use Rattle.assise_machine_state.proofs.Shared.Kept.{kept_from_first, kept_elsewhere}
pub use Rattle.assise_machine_state.proofs.Shared.LogChanges.{beside_seen, count_seen, log_found, region_here, log_away, region_else, region_back}
pub use Rattle.assise_machine_state.proofs.Shared.Noted.{failure_noted, noted_known, still_noted}
pub use Rattle.assise_machine_state.proofs.Shared.OwnLogs.{own_end, listed_is, one_more, all_taken, next_log}
pub use Rattle.assise_machine_state.proofs.Shared.Standings.{full_as, full_else, full_here, same_count, survivor_left, numbers}
pub use Rattle.assise_machine_state.specs.Changes.{after_members, with_clients_cut, with_clients_failed, after_inode, after_failure, drops_to, after_join}
pub use Rattle.assise_machine_state.specs.ClientValues.{ClientValue, client_in, failed_at, with_client}
pub use Rattle.assise_machine_state.specs.Invariant.{CutsInvariant, ShapeInvariant, AreLeft}
pub use Rattle.assise_machine_state.specs.NodeValues.{AreUndigested, HasLog, IsUndigestedFrom, changed_in, no_region, with_tails_cut, hot_capacities}
pub use Rattle.assise_machine_state.specs.NodeValues.{with_region, without_logs, with_logs_of}
unfoldable pub use Rattle.assise_machine_state.specs.NodeValues.{log_in, region_in}
pub use Rattle.assise_machine_state.specs.Observed.{own_node, stands_full, full_in}
unfoldable pub use Rattle.assise_machine_state.specs.Observed.{is_full_in, observed, world_of, own_seen}
pub use Rattle.assise_machine_state.specs.Places.{IsNumber}
unfoldable pub use Rattle.assise_machine_state.specs.Places.{item_at}
pub use Rattle.assise_machine_state.specs.StateValues.{StateValue, standings}
unfoldable pub use Rattle.assise_machine_state.specs.StateValues.{leases_of}
pub use Rattle.assise_machine_state.specs.Whole.{value_of}
pub use Rattle.assise_manager.specs.Changes.{back, back_as, is_returning, return_fault, stale_of, donor_of, failed, failure_fault, failed_as, failure_fault_of}
pub use Rattle.assise_manager.specs.Changes.{refilled_from, with_epoch, filling_fault_of, IsLowest, IsLowestOf, with_copied as copied_by, copied_as}
pub use Rattle.assise_manager.specs.Changes.{filling_fault, join_fault, join_fault_of, joined as joined_members}
pub use Rattle.assise_manager.specs.Membership.{Membership, lowest_full, written_since, IsMembership}
pub use Rattle.assise_manager.specs.Standings.{Standing, down, is_full, returning, standing_of, with_standing, full_nodes, full, phase_of}
pub use Rattle.assise_manager.specs.Whole.{membership}
pub use Rattle.assise_model_events.proofs.Shared.EachEvent.{event_keeps}
pub use Rattle.assise_model_events.specs.Events.{Answer, began, refused, fail as fail_event, failed as failed_answer, left, joined, back as back_event}
pub use Rattle.assise_model_events.specs.Events.{join as join_event, refill as refill_event}
pub use Rattle.assise_model_events.specs.Machine.{MachineInvariant}
pub use Rattle.assise_model_events.specs.MemberEvents.{IsBack, Returning, count_of, stale_at, Failing, IsFailed, is_failed, IsFailedAgain, is_failed_again}
pub use Rattle.assise_model_events.specs.MemberEvents.{is_refused, lacks_memory, IsRefilled, Refilling, Joining}
pub use Rattle.assise_model_history.specs.Lost.{is_cut, losses_to, losses_of}
pub use Rattle.assise_model_members.proofs.Shared.NodeStandings.{down_is, set_here, mapped_at, set_else}
pub use Rattle.assise_model_members.specs.Returns.{BeginsReturn, LosesCopies, FailsWithMembers, Refills, Rejoins}
pub use Rattle.assise_model_world.proofs.Shared.FailureKeeps.{fail_sound, kept_low}
pub use Rattle.assise_model_world.specs.Invariant.{WorldInvariant}
pub use Rattle.assise_model_world.specs.NodeSteps.{Rests, Fails, Drops}
unfoldable pub use Rattle.assise_model_world.specs.NodeSteps.{kept_at_failure}
pub use Rattle.assise_model_world.specs.World.{World, end_of_log, Full, digested_by_all, least_of, received_by_all}
unfoldable pub use Rattle.assise_model_world.specs.World.{call_at, records_between}
pub use Rattle.assise_names.specs.declared.refusal.Refusal.{Refusal}
pub use Rattle.assise_names.specs.declared.refusal.Refusal.TheVariants.{WrongPhase, LastNode, OutOfMemory, Busy}
pub use Rattle.assise_private_log.specs.NumberedLog.{NumberedLog, end as log_end, record_at, records_from, end}
pub use Rattle.assise_record.specs.LogRecord.{LogRecord}
pub use Rattle.assise_record.specs.Records.{all_effects, call_of}
