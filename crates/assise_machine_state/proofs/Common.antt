-- What the proofs of this crate name most.
pub use Rattle.std.proofs.Common.{◌≡◌, ◌≢◌, inl, inr, ℕ, zero, suc, ◌+◌, ◌-◌, ◌≤◌, max, ◌==◌, Bool, true, false, cond, not, ◌&&◌, ◌||◌, if◌then◌else◌, List, []}
pub use Rattle.std.proofs.Common.{◌∷◌, ◌++◌, length, filter, drop, slice_get, Option, Some, None, refl, ap, sym, subst, ◌∙◌, arith, eq-eqb, ◌<◌, take, take-suc}
pub use Rattle.std.proofs.Common.{get_or, map, ◌⊎◌, slice_index_or, min, true≢false, replicate, slice_set, set, nat_le, append-nil, Result, OnErr, OnOk, Ok}
pub use Rattle.std.proofs.Common.{Err, vec_capacity}
pub use Rattle.std.proofs.Math.Bool.{and-true, or-false, and-false}
pub use Rattle.std.proofs.Math.ListN.{get_or-map}
pub use Rattle.std.proofs.Math.Logic.{∥∥₁_elim, ∥∥₁_map}
pub use Rattle.std.proofs.Props.{props}
pub use Rattle.std.proofs.lemmas.Bool.{and_from, and_parts, and_right, cases_Bool, cases_eq, eqb-true, false_from_ne_true, ne_eqb, not-true, or_parts}
pub use Rattle.std.proofs.lemmas.Bool.{false≢true, cond_both, cases_lt, le-leb, leb-false, leb-true, or_cases, or_left, or_right}
pub use Rattle.std.proofs.lemmas.List.{take_all, length-append, length-drop, length-take, length-map, nil_from_length, map-set, length-set, get_or-set_other}
pub use Rattle.std.proofs.lemmas.List.{get_or-set_same, get_or_append_left, get_or_default, get_or_past, get_or_push, length_push, set-get_or, set-set}
pub use Rattle.std.proofs.lemmas.List.{set_past, take-take, get_or-drop, append_assoc, map-append, drop_all}
pub use Rattle.std.proofs.lemmas.List.Folds.{list_any-append, list_any_at}
pub use Rattle.std.proofs.lemmas.Result.{on_err_weaker, on_ok_weaker, err_from_is_err_and}
pub use Rattle.std.specs.List.{list_all, list_any}
pub use Rattle.std.specs.Ordering.{nat_cmp}
pub use Rattle.assise_digest.specs.Region.{RegionValue, no_log, with_inode, ReceivedLog, with_more, regrouped_from, up_to_number, ahead, digested_further}
pub use Rattle.assise_digest.specs.Region.{HasClient, log_of, from_number, region_with_client, with_hot_capacity, digested_by, with_log}
pub use Rattle.assise_digest.specs.Region.{region_with_client as with_client_log, ahead_below, all_ahead, alone, AreWhole, IsBegun, with_one, without_clients}
pub use Rattle.assise_history.proofs.Shared.ClientCounts.{durability-still, durability-opened, durability-other}
pub use Rattle.assise_history.specs.Entries.{calls, EntryValue, crashes, fails}
pub use Rattle.assise_history.specs.Legal.{durability_of}
pub use Rattle.assise_inode_table.proofs.Shared.EffectLists.{get-all_applied}
pub use Rattle.assise_inode_table.proofs.Shared.EffectValues.{get-with_value, touched-append}
pub use Rattle.assise_inode_table.specs.Contents.{Content, values, InodeMap}
pub use Rattle.assise_inode_table.specs.Effects.{contains, touched, all_applied, value_after}
pub use Rattle.assise_inode_table.specs.Traces.{NumberedCall, below}
pub use Rattle.assise_lease_table.specs.Cuts.{are_once, cut_in, is_asked, is_of, is_unasked}
pub use Rattle.assise_lease_table.specs.Leases.{Among, stand_together, compatible, holders, is_to_ask, lease_of, is_own, revoke}
pub use Rattle.assise_lease_table.specs.declared.lease.Asked.{Asked}
pub use Rattle.assise_lease_table.specs.declared.lease.Lease.{Lease}
pub use Rattle.assise_lease_tree.specs.Levels.{in_way, is_revoked, lives}
pub use Rattle.assise_lease_tree.specs.TwoLevels.{IsAskedFor, TwoLevels, is_free_for, IsRevoked, EnrolsAt, SameLevels, nobody}
pub use Rattle.assise_machine_state.specs.Changes.{after_asking, with_goals, after_inode, after_members, after_call, after_coalescing, after_regrouping}
pub use Rattle.assise_machine_state.specs.Changes.{goal_of, after_crash, with_clients_cut, with_clients_failed, after_digest, after_drop, drops_to, first_but}
pub use Rattle.assise_machine_state.specs.Changes.{after_failure, after_goal, after_hot, after_join, after_leases, after_open, after_delivery, after_letting_go}
pub use Rattle.assise_machine_state.specs.ClientValues.{ClientValue, is_over, with_client, with_goal, with_call, crashed_at, failed_at, cut_of, no_client}
pub use Rattle.assise_machine_state.specs.ClientValues.{opened_on}
unfoldable pub use Rattle.assise_machine_state.specs.ClientValues.{client_in}
pub use Rattle.assise_machine_state.specs.Invariant.{AreAnswers, CutsInvariant, ShapeInvariant, IsMarked, AreLeft, SameRevoked}
pub use Rattle.assise_machine_state.specs.NodeValues.{HasLog, with_call_in, with_log_in, with_tails_cut, without_logs, AreDigested, IsDigestedTo}
pub use Rattle.assise_machine_state.specs.NodeValues.{hot_capacities, no_region, begun_log, changed_in, new_regions, with_hot_in, with_logs_begun}
pub use Rattle.assise_machine_state.specs.NodeValues.{with_prefixes_dropped, with_region, away, with_digested_in, with_records, AreTaken, HasGroupsOf, copied}
pub use Rattle.assise_machine_state.specs.NodeValues.{with_next, new_region, with_copies, with_logs_ended, AreUndigested}
unfoldable pub use Rattle.assise_machine_state.specs.NodeValues.{log_in, region_in}
pub use Rattle.assise_machine_state.specs.Observed.{own_node, stands_full, inodes_read}
unfoldable pub use Rattle.assise_machine_state.specs.Observed.{own_seen, world_of, is_full_in, full_in, observed}
pub use Rattle.assise_machine_state.specs.Places.{IsNumber, with_item}
unfoldable pub use Rattle.assise_machine_state.specs.Places.{item_at}
pub use Rattle.assise_machine_state.specs.StateValues.{StateValue, standings}
unfoldable pub use Rattle.assise_machine_state.specs.StateValues.{leases_of}
pub use Rattle.assise_machine_state.specs.Whole.{value_of}
pub use Rattle.assise_manager.specs.Changes.{noted, stale_again, failure_fault, join_fault, failed, failed_as, refilled_from, with_epoch, all_full, fulls}
pub use Rattle.assise_manager.specs.Membership.{Membership, lowest_full, IsMembership, written_since}
pub use Rattle.assise_manager.specs.Standings.{full_nodes, Standing, full, is_full, standing_of, returning, phase_of, down, full_from, with_standing}
pub use Rattle.assise_manager.specs.Whole.{membership}
pub use Rattle.assise_model_events.proofs.Shared.Regroupable.{most-above, most-below, between_length, coalesced_elsewhere, coalesced_first, coalesced_high}
pub use Rattle.assise_model_events.specs.Dsyncs.{besides, coalesced_from, full_elsewhere, most_of, new_groups}
pub use Rattle.assise_model_events.specs.Machine.{Machine, with_hot, begun_as, MachineInvariant}
pub use Rattle.assise_model_events.specs.NodeEvents.{border_marks}
pub use Rattle.assise_model_history.proofs.Shared.NumberedCalls.{kept_call, kept_crash, kept_fail, kept_return, kept_open}
pub use Rattle.assise_model_history.specs.Numbered.{kept_numbered, made_in, numbered_in, plain_call}
pub use Rattle.assise_model_history.specs.State.{down_from}
pub use Rattle.assise_model_leases.proofs.Shared.LookUps.{revoke_of, revoked_held, revoked_one, held_one, still_revoked, written_one}
pub use Rattle.assise_model_leases.specs.Handing.{Asks, asked_goal, is_newly_revoked, CrashesWith, FailsWithLeases, OpensAt, SameCuts, HoldsAsLeased}
pub use Rattle.assise_model_leases.specs.Leases.{AreLeases, CoversFrom, Leases, client_lease, is_held, is_written}
unfoldable pub use Rattle.assise_model_leases.specs.Leases.{client_records_from}
pub use Rattle.assise_model_members.specs.Returns.{OtherAreasStay, DigestsNoted, Rejoins}
pub use Rattle.assise_model_world.proofs.Shared.FailureKeeps.{contains-filter, filter-contains, kept_border, kept_high, kept_low}
pub use Rattle.assise_model_world.proofs.Shared.Logs.{contains-all_effects, drop-of_drop}
pub use Rattle.assise_model_world.proofs.Shared.WorldObserved.{end_is, digested_by_all-below, least_of-end, received_by_all-below, first-received_by_all}
pub use Rattle.assise_model_world.proofs.Shared.WorldObserved.{least_of-below, least_of-above, digested_by_all-first, least_of-same}
pub use Rattle.assise_model_world.specs.Chances.{MayMakeCall, MayDigest, MayDeliver}
pub use Rattle.assise_model_world.specs.ClientSteps.{RaisesGoals, MakesCall, Crashes, Opens}
pub use Rattle.assise_model_world.specs.Invariant.{WorldInvariant}
pub use Rattle.assise_model_world.specs.NodeSteps.{Rests, Digests, Drops, Fails, Delivers}
unfoldable pub use Rattle.assise_model_world.specs.NodeSteps.{kept_at_failure}
pub use Rattle.assise_model_world.specs.Staying.{KeepsLeases, SameLogs, SameClients, SameGoals, SameNode, SameNodes}
pub use Rattle.assise_model_world.specs.World.{Full, World, call_makes_inode, step_at_home, IsClient, least_of, all_undigested_records as all_observed}
unfoldable pub use Rattle.assise_model_world.specs.World.{end_of_log, received_by_all, records_between, undigested_below, digested_by_all, call_at}
unfoldable pub use Rattle.assise_model_world.specs.World.{undigested_records as ahead_observed, undigested_below as below_observed, alone_at as alone_observed}
unfoldable pub use Rattle.assise_model_world.specs.World.{view, first_unreplicated}
pub use Rattle.assise_names.specs.declared.durability.Durability.{Durability}
pub use Rattle.assise_names.specs.declared.refusal.Refusal.{Refusal}
pub use Rattle.assise_private_log.proofs.Shared.Borders.{border_end, border_first, border_grouped, border_marked, open_group}
pub use Rattle.assise_private_log.proofs.Shared.LogGroups.{regrouped_all, regrouped_among, regrouped_before, regrouped_records, with_all}
pub use Rattle.assise_private_log.specs.NumberedLog.{NumberedLog, is_border, record_at, end as log_end, IsNumberedLog, records_from, without_tail, end}
pub use Rattle.assise_private_log.specs.NumberedLog.{without_prefix, with_grouped, empty_log}
pub use Rattle.assise_record.specs.Groups.{AllHaveEffects, all_coalesced, are_whole, groups_of, all_marks, all_records, marks_of}
pub use Rattle.assise_record.specs.LogRecord.{LogRecord}
pub use Rattle.assise_record.specs.Records.{all_effects, has_some, record_of, call_of}
pub use Rattle.assise_record.specs.declared.effect.Effect.{Effect}
