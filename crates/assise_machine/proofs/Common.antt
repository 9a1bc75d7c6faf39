-- What the proofs of this crate name most.
pub use Rattle.std.proofs.Common.{◌≡◌, ℕ, List, None, Result, Ok, Err, IfOk, refl, sym, subst, ◌⊎◌, [], ◌∷◌, ◌++◌, map, inl, inr, Option, Some, IfNone, IfSome}
pub use Rattle.std.proofs.Common.{ap, ◌∙◌, ◌<◌, ◌≤◌, nat_le, Bool, true, false, not, ◌&&◌, length, arith, ◌≢◌, ◌+◌, ◌-◌, ◌^◌, ◌==◌, max, take, drop, append-nil}
pub use Rattle.std.proofs.Common.{suc, min, zero, get_or, append_assoc, length-append, filter, nat_lt, eq-eqb, OnErr, OnOk, IsOkUnless, slice_get, Contains}
pub use Rattle.std.proofs.Common.{IsSome, true≢false, ◌↔◌, IsOk, if◌then◌else◌, slice_index_or, rules, ◌*◌}
pub use Rattle.std.proofs.Math.Bridge.{le_prop}
pub use Rattle.std.proofs.Math.Logic.{∥∥₁_elim, ∥∥₁_map}
pub use Rattle.std.proofs.Math.Seq.{drop-cons, drop-nil, take-nil, take-append_seam}
pub use Rattle.std.proofs.Props.{props}
pub use Rattle.std.proofs.lemmas.Bool.{both_ways, cases_Bool, and_from, and_parts, and_right, le-leb, leb-true, cases_lt, eqb-true, false_from_ne_true}
pub use Rattle.std.proofs.lemmas.Bool.{not-true, cases_eq, or_cases, or_left, or_right, ltb-true, ltb-false, not-false}
pub use Rattle.std.proofs.lemmas.List.{drop_all, length-drop, length-take, take-take, take_all, take_more, drop-take, drop-drop, get_or_append_left}
pub use Rattle.std.proofs.lemmas.List.{get_or_push, length_push, take-append-drop, take-map, length-map}
pub use Rattle.std.specs.Coded.{Coded-set, coded_option, Coded, Unit-prop, codes, ×_prop, coded_list, coded_result, coded_ℕ}
pub use Rattle.std.specs.List.{list_all, list_any}
pub use Rattle.std.specs.Option.{unwrap_or, option_to_list, option_copied}
pub use Rattle.std.specs.Ordering.{nat_cmp}
pub use Rattle.std.specs.Prelude.{⊤}
pub use Rattle.assise_chain.specs.Chains.{behind, chain, first_of_all}
pub use Rattle.assise_digest.specs.Region.{alone, HasClient, ReceivedLog, RegionValue, TouchDisjoint, ahead, digested_further, log_at, AreWhole, no_log}
pub use Rattle.assise_history.specs.Entries.{EntryValue, opens}
pub use Rattle.assise_history.specs.Kept.{exchange, kept, IsRun, tree_after}
pub use Rattle.assise_history.specs.Legal.{Fits, IsLegal, durability_of, is_failure_of, clients_opened, IsDown, IsPastSyncs, calls_made}
pub use Rattle.assise_history.specs.declared.call.Loss.{Loss}
pub use Rattle.assise_inode_table.specs.Contents.{coded_content, Values}
pub use Rattle.assise_inode_table.specs.Effects.{all_applied, contains, touched}
pub use Rattle.assise_inode_table.specs.Spelled.{Spells, ReachesOnce}
pub use Rattle.assise_inode_table.specs.Traces.{ops, NumberedCall, Each, below, exchanges}
pub use Rattle.assise_machine.specs.Answers.{setting_answer, raising_answer, sending_answer}
pub use Rattle.assise_machine.specs.Clusters.{AreAcked, machine, revokers}
pub use Rattle.assise_machine.specs.Digesting.{EndsWithGroup, NoneListed, digests_some, EndWithGroups, digests_to}
pub use Rattle.assise_machine.specs.Headline.{IsUp, acked_to, call_from, first_acked, history_of, kept_below, least_end, regions_of, replicated_calls}
pub use Rattle.assise_machine.specs.Headline.{replicated_to, first_call, received_log, entry_of, history_after, all_acked}
pub use Rattle.assise_machine.specs.Running.{told, AllApplied, AllServed, IsApplied, IsServed, Stocked, answer_seen, event_seen, happens, lacks_revoker}
pub use Rattle.assise_machine.specs.Running.{stock_after, stock_left, all_opened, last_first, opened_of, stocked}
pub use Rattle.assise_machine.specs.declared.answer.Answer.{Answer as Answered}
pub use Rattle.assise_machine.specs.declared.cluster.ClusterOf.{ClusterOf}
pub use Rattle.assise_machine.specs.declared.event.Event.{Event}
pub use Rattle.assise_machine_failures.proofs.Shared.RefusedFailures.{never}
pub use Rattle.assise_machine_failures.proofs.Shared.TakenDown.{sound_so}
pub use Rattle.assise_machine_state.proofs.Shared.Fullness.{seen_full, has_log, same_first, full_seen, full_number}
pub use Rattle.assise_machine_state.proofs.Shared.HotCapacities.{log_keeps, region_keeps}
pub use Rattle.assise_machine_state.proofs.Shared.ItemSeen.{length-with, less_one, seen_nothing, seen_past}
pub use Rattle.assise_machine_state.proofs.Shared.Marks.{border_inside, so_many_marks}
pub use Rattle.assise_machine_state.proofs.Shared.Noted.{still_noted}
pub use Rattle.assise_machine_state.proofs.Shared.ReadObserved.{alone_same, ahead_first}
pub use Rattle.assise_machine_state.proofs.Shared.Standings.{listed_is_full, lowest_listed, stands_so}
pub use Rattle.assise_machine_state.specs.Changes.{after_delivery, after_hot, drops_to}
pub use Rattle.assise_machine_state.specs.ClientValues.{ClientValue, no_client, cut_of}
unfoldable pub use Rattle.assise_machine_state.specs.ClientValues.{client_in}
pub use Rattle.assise_machine_state.specs.Invariant.{ShapeInvariant, CutsInvariant}
pub use Rattle.assise_machine_state.specs.NodeValues.{HasGroupsOf, HasLog, with_log_in, with_records, with_digested_in, hot_capacities, with_hot_in, no_region}
unfoldable pub use Rattle.assise_machine_state.specs.NodeValues.{region_in, log_in}
pub use Rattle.assise_machine_state.specs.Observed.{stands_full, own_node}
unfoldable pub use Rattle.assise_machine_state.specs.Observed.{observed, world_of, is_full_in, own_seen}
pub use Rattle.assise_machine_state.specs.Places.{IsNumber}
unfoldable pub use Rattle.assise_machine_state.specs.Places.{item_at}
pub use Rattle.assise_machine_state.specs.StateValues.{StateValue, standings}
unfoldable pub use Rattle.assise_machine_state.specs.StateValues.{leases_of}
pub use Rattle.assise_machine_state.specs.Whole.{machine_of, value_of}
pub use Rattle.assise_machine_state.specs.declared.sound.SoundOf.{SoundOf}
pub use Rattle.assise_manager.specs.Changes.{noted, stale_again, with_written, donor_of, is_returning, raise_fault, raised as with_raised, fulls}
pub use Rattle.assise_manager.specs.Membership.{Membership, lowest_full}
pub use Rattle.assise_manager.specs.NodeLevels.{level_of, newest, sends_marks}
pub use Rattle.assise_manager.specs.Standings.{Standing, standing_of, full_nodes, down, full, returning, phase_of, is_full}
pub use Rattle.assise_manager.specs.Whole.{has_room_for, membership}
pub use Rattle.assise_manager.specs.declared.phase.Phase.{Phase}
pub use Rattle.assise_model_events.proofs.Shared.EachEvent.{event_keeps, event_leads, event_told, hot_holds}
pub use Rattle.assise_model_events.proofs.Shared.LeaseSteps.{full_after, clients_after, logs_after, nodes_after}
pub use Rattle.assise_model_events.proofs.Shared.Whatever.{safe, then_leads, handed_over_replicated}
pub use Rattle.assise_model_events.specs.ClientEvents.{Calling, Crashing, Noting, Opening, Syncing, Gets, Granted, IsTried, KeepsGranted, call_of_client}
pub use Rattle.assise_model_events.specs.ClientEvents.{last_world}
pub use Rattle.assise_model_events.specs.Dsyncs.{Coalescing}
pub use Rattle.assise_model_events.specs.Events.{refused, deliver as deliver_to, Answer, ClusterEvent, open_client, try_call, try_fsync, outgoing, deliver}
pub use Rattle.assise_model_events.specs.Events.{digest, release_ready, set_hot, crash, fail, back, refill, join, raise, failed, all_entries, entries_of}
pub use Rattle.assise_model_events.specs.Events.{hot_set, opened, raised, digested, sent}
pub use Rattle.assise_model_events.specs.Faults.{node_fault, IsTimelyDelivery, delivery_fault, fault_if, or_else, unless_full, open_fault}
pub use Rattle.assise_model_events.specs.Happenings.{Happens, Leads, Dsyncing, Fsyncing, Trying}
pub use Rattle.assise_model_events.specs.Machine.{MachineInvariant, state_of, Machine, begun_as}
pub use Rattle.assise_model_events.specs.MemberEvents.{Failing, IsFailed, Joining, Raising, Refilling, Returning, IsRaised, is_raised}
pub use Rattle.assise_model_events.specs.NodeEvents.{Delivering, is_refused, is_stale, lacks_memory, is_delivered, undigested, DigestsTo, most_digested}
pub use Rattle.assise_model_events.specs.NodeEvents.{part_of, undigested_to, for_node, frame_for, frames_to, border_marks, next_node, node_log, SettingHot}
pub use Rattle.assise_model_events.specs.NodeEvents.{is_set, Digesting, Gone, LetsGo, Releasing, Sending, world_after, is_sent}
pub use Rattle.assise_model_events.specs.NodeEvents.Digesting.{is_digested}
pub use Rattle.assise_model_history.specs.Traces.{numbered_replicated, IsLasting}
pub use Rattle.assise_model_members.specs.Returns.{DigestsNoted}
pub use Rattle.assise_model_world.proofs.Shared.FailureKeeps.{contains-filter, kept_low}
pub use Rattle.assise_model_world.proofs.Shared.WorldObserved.{received_by_all-below, received_by_all-border}
pub use Rattle.assise_model_world.proofs.Shared.WorldObserved.{digested_by_all-below, least_of-above, least_of-end}
pub use Rattle.assise_model_world.specs.Chances.{MayDeliver, MayDigest}
pub use Rattle.assise_model_world.specs.Invariant.{IsOrdered, WorldInvariant}
unfoldable pub use Rattle.assise_model_world.specs.Invariant.{Compatible, Guarded, WritesAreHeld}
pub use Rattle.assise_model_world.specs.NodeSteps.{Digests, Drops}
unfoldable pub use Rattle.assise_model_world.specs.NodeSteps.{kept_at_failure}
pub use Rattle.assise_model_world.specs.World.{Full, alone_at as alone_observed, World, IsClient, digested_by_all, first_undigested}
unfoldable pub use Rattle.assise_model_world.specs.World.{end_of_log, records_between, undigested_below, received_by_all, undigested_records}
unfoldable pub use Rattle.assise_model_world.specs.World.{first_unreplicated, steps, call_at}
pub use Rattle.assise_names.specs.declared.call.Op.{Op}
pub use Rattle.assise_names.specs.declared.call.Op.TheVariants.{Fsync, Dsync}
pub use Rattle.assise_names.specs.declared.durability.Durability.{Durability}
pub use Rattle.assise_names.specs.declared.limits.TheConstants.{MOST_CLIENTS, MOST_NODES}
pub use Rattle.assise_names.specs.declared.refusal.Refusal.{Refusal}
pub use Rattle.assise_names.specs.declared.refusal.Refusal.TheVariants.{OutOfMemory, StaleMessage, BadClient, WrongPhase}
pub use Rattle.assise_names.specs.declared.reply.Reply.{Reply}
pub use Rattle.assise_private_log.proofs.Shared.Borders.{border_first, border_end, whole_here}
pub use Rattle.assise_private_log.specs.NumberedLog.{NumberedLog, end as log_end, is_border, records_from, record_at}
pub use Rattle.assise_record.specs.LogFrame.{LogFrame}
pub use Rattle.assise_record.specs.LogRecord.{LogRecord}
pub use Rattle.assise_record.specs.Records.{all_effects, call_of}
pub use Rattle.assise_record.specs.Touched.{touched_by}
pub use Rattle.assise_seq_tree.specs.Answer.{answer}
pub use Rattle.assise_seq_tree.specs.Runs.{tree_after_calls, AreAnswered}
pub use Rattle.assise_seq_tree.specs.Tree.{opening, Tree}
