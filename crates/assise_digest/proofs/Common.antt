-- What the proofs of this crate name most.
pub use Rattle.std.proofs.Common.{ℕ, zero, suc, ◌≤◌, List, [], ◌∷◌, ◌++◌, length, take, drop, map, subst, arith, take-append-drop, ◌≡◌, ◌≢◌, ◌<◌, ◌+◌, ◌-◌}
pub use Rattle.std.proofs.Common.{◌||◌, ◌⊎◌, Option, Bool, true, false, slice_index_or, slice_set, refl, sym, ap, ◌∙◌, inl, inr, drop-drop, take-add, is_some}
pub use Rattle.std.proofs.Common.{cond, Less, length-append, reverse, append_assoc, append-nil, ◌==◌, min, true≢false, if◌then◌else◌, Some, None, IsSome, Ok}
pub use Rattle.std.proofs.Common.{◌&&◌, not, nat_eq, option_map, rules, IsOk, OnOk, Result, Err, OnErr, take_all, vec_len}
pub use Rattle.std.proofs.Math.Seq.{drop-append_seam, drop-append-add}
pub use Rattle.std.proofs.lemmas.Bool.{cases_eq, or_parts, or_right as or_true_right, both_ways, cases_lt, eqb-true, or_right, le-ltb, cond_both, eq-eqb}
pub use Rattle.std.proofs.lemmas.Bool.{ne_eqb, false≢true}
pub use Rattle.std.proofs.lemmas.List.{length-drop, get_or-set_same, get_or-set_other, length-set, set-get_or, reverse-reverse, reverse-append, same_from_push}
pub use Rattle.std.proofs.lemmas.List.{get_or-map, take_min, at_drop_more, length-reverse, drop_all, map-append, drop-append-le, length-take, length-map}
pub use Rattle.std.proofs.lemmas.List.{map-set, take-map}
pub use Rattle.std.proofs.lemmas.Option.{same_Some}
pub use Rattle.std.specs.Cmp.{nat_cmp_total}
pub use Rattle.std.specs.List.{AllByRecursion, flat_map, slice_get, cons_option, list_any}
pub use Rattle.std.specs.Option.{option_map_or, option_or, IfSome, option_copied}
pub use Rattle.std.specs.Ordering.{nat_cmp, match_ordering}
pub use Rattle.std.specs.Prelude.{ok_or}
pub use Rattle.assise_area.proofs.Shared.Seen.{ok_map}
pub use Rattle.assise_digest.specs.Ahead.{last_touch}
pub use Rattle.assise_digest.specs.Invariant.{LogsInvariant, LogInvariant, seen_log, StandsHere, seen_logs}
pub use Rattle.assise_digest.specs.Pending.{KeepsNoMore, Lays, all_held, overlaid, overlaid_with, pending_seen, HasAllNumbers, IsNew, forgotten, held}
pub use Rattle.assise_digest.specs.Pending.{loaded_in_turn, is_last, let_go, last_noted, StandsFor, taken_in, all_noted, noted_from}
pub use Rattle.assise_digest.specs.Postorder.{subtrees_of, postorder, postorder_of, subtrees, degree, shape}
pub use Rattle.assise_digest.specs.Region.{AreNotBelow, HasClient, IsBegun, ReceivedLog, RegionValue, TouchDisjoint, ahead, ahead_below, all_ahead, alone}
pub use Rattle.assise_digest.specs.Region.{digested_by, digested_further, log_at, log_of, no_log, read_by, IsNextGroup, first_effects, next_effects, AreWhole}
pub use Rattle.assise_digest.specs.Region.{from_number, up_to_number, with_more, IsQuiet, with_log, regrouped_from, with_one, without_last_client}
pub use Rattle.assise_digest.specs.Targets.{linked, targets}
pub use Rattle.assise_digest.specs.declared.pending.Pending.{Pending}
pub use Rattle.assise_digest.specs.declared.received.Received.{Received}
pub use Rattle.assise_inode_table.proofs.Shared.EffectLists.{append_applied, get-all_applied, same_inodes, values-all_applied}
pub use Rattle.assise_inode_table.proofs.Shared.EffectValues.{untouched, value_after-append, contains-both, get-with_value, same_number}
pub use Rattle.assise_inode_table.proofs.Shared.Grouped.{ComeToSame, same_both, same_group, same_none}
pub use Rattle.assise_inode_table.proofs.Shared.MapView.{remove-absent, alike, get-seen, insert-seen, remove-numbers}
pub use Rattle.assise_inode_table.proofs.Shared.TableView.{on_err, is_there}
pub use Rattle.assise_inode_table.specs.Contents.{Content, InodeMap, regular, directory, Links, Values, values}
pub use Rattle.assise_inode_table.specs.Effects.{all_applied, contains, touched, value_after, with_value}
pub use Rattle.assise_inode_table.specs.Reach.{Shape, folder, shape_of_tree, link_of, shape_of}
pub use Rattle.assise_inode_table.specs.Spelled.{SpellsFrom}
pub use Rattle.assise_inode_table.specs.Whole.{CanBeMadeWhole}
pub use Rattle.assise_private_log.specs.Groups.{groups_from, regrouped}
pub use Rattle.assise_private_log.specs.NumberedLog.{NumberedLog, records_from, IsNumberedLog, end, is_border, record_at, with_grouped, without_prefix}
pub use Rattle.assise_private_log.specs.NumberedLog.{without_tail, HasOpenGroup, nearest}
pub use Rattle.assise_record.proofs.Shared.Records.{all_effects-append}
pub use Rattle.assise_record.specs.Groups.{all_records, coalesced_group, groups_of, all_marks, begun_by, left_in, left_of, AllHaveEffects}
pub use Rattle.assise_record.specs.LogRecord.{LogRecord}
pub use Rattle.assise_record.specs.Records.{all_effects, record_of}
pub use Rattle.assise_record.specs.Touched.{touched_by}
pub use Rattle.assise_record.specs.declared.effect.Effect.{Effect}
pub use Rattle.assise_seq_tree.proofs.Shared.Sets.{find_below, find_first, found_later}
pub use Rattle.assise_seq_tree.specs.Tree.{Tree, dir, Entries, no_entries, entry, insert, replace, names_of, IsBelow, file, find, AreOrdered}
unfoldable pub use Rattle.assise_seq_tree.specs.Tree.{put}
