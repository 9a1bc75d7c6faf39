-- What the proofs of this crate name most.
pub use Rattle.std.proofs.Common.{◌≡◌, ℕ, inl, inr, [], if◌then◌else◌, cond, Ok, Some, None, IsSome, nat_cmp, ap, sym, ◌∙◌, ◌==◌, zero, suc, ◌+◌, ◌-◌, ◌*◌, ◌<◌}
pub use Rattle.std.proofs.Common.{◌≤◌, List, ◌∷◌, ◌++◌, length, take, drop, refl, subst, get_or, arith, min, append-nil, length-append, take_at}
pub use Rattle.std.proofs.Common.{take-append-drop, ◌/◌, ◌%◌, ◌≢◌, replicate, set, max, append_assoc, ◌⊎◌, Bool, true, false, ◌||◌, nat_le, Option, Result, Err}
pub use Rattle.std.proofs.Common.{MatchBool, map, is_some, Ordering, Less, Equal, Greater, T, slice_index_or, eqb, ◌&&◌, true≢false, is_gt, nat_lt, nat_eq}
pub use Rattle.std.proofs.Common.{insert, zip, ap₂, IfOk, IfErr, ◌^◌, add-zero, is_none, not, OnErr, rules, tests, vec_len, vec_capacity, IfSome}
pub use Rattle.std.proofs.Math.Seq.{take-add}
pub use Rattle.std.proofs.lemmas.Bool.{ne_eqb, cases_eq, cases_lt, cond_both, eqb-true, cases_Bool, ltb-true, ltb-false, or_cases, or_parts}
pub use Rattle.std.proofs.lemmas.Bool.{or_right as or_true_right, eq-eqb, leb-true, and_parts, or_right, false≢true, false_from_ne_true, eqb-false, or_left}
pub use Rattle.std.proofs.lemmas.Bool.{le-ltb, not-false, not-true, both_ways, or_from}
pub use Rattle.std.proofs.lemmas.Grind.{same_number_lists}
pub use Rattle.std.proofs.lemmas.Iterator.{items_from_drains, YieldsList-from_slice}
pub use Rattle.std.proofs.lemmas.List.{take_all, drop_all, drop_at, drop_more, length-take, length-drop, get_or-take, get_or-drop, take-take, drop-take}
pub use Rattle.std.proofs.lemmas.List.{drop-drop, set_split, take-append-le, take_more_set, take_min, drop_min, get_or_append_left, get_or-append_right}
pub use Rattle.std.proofs.lemmas.List.{get_or-replicate, get_or_past, take_more, map-append, same_from_push, length-map, nil_from_length, take-map, drop-map}
pub use Rattle.std.proofs.lemmas.List.{set-get_or, length-set, get_or_read, map-id}
pub use Rattle.std.proofs.lemmas.List.Concat.{flat_map-append}
pub use Rattle.std.proofs.lemmas.List.Elements.{filter-append, All-set, recursion_from_All, All-drop}
pub use Rattle.std.proofs.lemmas.List.Folds.{concat-append}
pub use Rattle.std.proofs.lemmas.Map.Keys.{sorted_head, sorted_tail, Less-from_sorted}
pub use Rattle.std.proofs.lemmas.Map.Lookups.{exact_bytes, exact_unsigned}
pub use Rattle.std.proofs.lemmas.Result.{on_ok_weaker, IfOk-weaker}
pub use Rattle.std.specs.Arc.{arc_value}
pub use Rattle.std.specs.BTreeMap.{is_at}
pub use Rattle.std.specs.Cmp.{nat_cmp_total, tied_itself, IsTotalOrder, eq_by_cmp_equiv, nat_eq_equiv}
pub use Rattle.std.specs.Cmp.Lexicographic.{slice_cmp, nat_list_cmp_total, texts_ties}
pub use Rattle.std.specs.FinMap.{IsAntisymmetric, entries, entries-insert, empty, keys, len, len-entries, len-empty, len-insert, FinMap, get, from_entries}
pub use Rattle.std.specs.FinMap.{get-from_entries, get-insert, get-remove, same_map}
pub use Rattle.std.specs.FinMap.Entries.{below_all, is_sorted, by_order}
pub use Rattle.std.specs.Int.{div_ceil, from_bool}
pub use Rattle.std.specs.List.{concat, list_any, filter, AllByRecursion, list_all, copy_within}
unfoldable pub use Rattle.std.specs.List.{IsDistinct}
pub use Rattle.std.specs.List.Sorted.{IsSearchInRange, IsBinarySearchResult, IsNonDecreasingBy}
unfoldable pub use Rattle.std.specs.List.Sorted.{IsStrictlySortedBy}
pub use Rattle.std.specs.Map.{keys_of, lookup}
pub use Rattle.std.specs.Option.{option_map_or, option_or, option_to_list}
pub use Rattle.std.specs.Ordering.{eq_by_cmp, is_lt, is_eq, ordering_reverse, ordering_index}
pub use Rattle.std.specs.Prelude.{ok_or, option_map, unwrap_or}
unfoldable pub use Rattle.assise_inode_table.specs.Blocks.{IsCut}
pub use Rattle.assise_inode_table.specs.Calls.{then_or_error, walk_from, walk_to_entry, as_regular, as_links, room_among, without_links, content_may_replace}
pub use Rattle.assise_inode_table.specs.Calls.{stat_reply, room_beside, receive, move_effects, make_call, write_effects, interaction, step, walk, create_call}
pub use Rattle.assise_inode_table.specs.Calls.{mkdir_call, read_call, list_call, stat_call, unlink_call, rmdir_call, move_to, replace_target, rename_call}
pub use Rattle.assise_inode_table.specs.Calls.{write_call, truncate_call}
pub use Rattle.assise_inode_table.specs.Changes.{found, is_among, Lacks, AreDistinctChanges, IsPlace, ArePlaced, placed, placed_one, map_without}
pub use Rattle.assise_inode_table.specs.Contents.{directory, values, Content, Links, Values, InodeMap, regular}
pub use Rattle.assise_inode_table.specs.Effects.{makes, after, touched, contains, value_after, TakesAway, all_applied, applied, with_value, effect_on}
pub use Rattle.assise_inode_table.specs.Effects.{SameNetEffect, changed, AsksForMemory}
pub use Rattle.assise_inode_table.specs.Interaction.{Interaction, finish, reply_of, effects_of, Step, AgreeOn, visit, visits_of, step_by}
pub use Rattle.assise_inode_table.specs.Numbers.{makes_inode, AnsweredCall, inode_number, inodes_made, numbered_call, numbered_after, numbered}
pub use Rattle.assise_inode_table.specs.Opening.{opening_inodes}
pub use Rattle.assise_inode_table.specs.Pieces.{Slot, live_entry, live, slots_in, piece_at, Ascend, AreFilled, IsPiece, link_or_none, slot_link, IsSlotOf}
pub use Rattle.assise_inode_table.specs.Pieces.{IsGapFor, links_in, slot_name, slots_before, slots_behind, IsDirectory, IsPieceFor, StandsAt, AddsSlot}
unfoldable pub use Rattle.assise_inode_table.specs.Pieces.{links_or_none}
pub use Rattle.assise_inode_table.specs.Reach.{link_of, children, reach, Shape, folder, shape_of, shown_from, shown_in, Children, shape_of_tree}
pub use Rattle.assise_inode_table.specs.Spelled.{Spells, AgreeBut, RemovesLink, SpellsFrom, ShareNone, AddsLink, ReachesOnce}
pub use Rattle.assise_inode_table.specs.Traces.{NumberedCall, trace, step_of, values_after_calls, MakesNew, AllMakeNew, exchanges, ops, Each, NumbersAscend}
pub use Rattle.assise_inode_table.specs.Traces.{below, window, Pairs}
pub use Rattle.assise_inode_table.specs.Unseen.{Clear, Unseen}
pub use Rattle.assise_inode_table.specs.Whole.{OnlyFirstAsks, OnlyTakeAway, MakesThenAsks, EndsWithLink, CanBeMadeWhole, CanBeChangedWhole, is_link}
pub use Rattle.assise_inode_table.specs.Whole.{leaves_entry, takes_away}
pub use Rattle.assise_inode_table.specs.declared.changes.Change.{Change}
pub use Rattle.assise_names.specs.Path.{is_proper_prefix, same_path}
pub use Rattle.assise_names.specs.declared.call.Op.{Op}
pub use Rattle.assise_names.specs.declared.call.Op.TheVariants.{Create, Mkdir, Read, Write as WriteCall, Truncate, Rename, Unlink as UnlinkCall, Rmdir}
pub use Rattle.assise_names.specs.declared.call.Op.TheVariants.{List as ListCall, Stat, Fsync, Dsync}
pub use Rattle.assise_names.specs.declared.reply.Reply.{Reply}
pub use Rattle.assise_names.specs.declared.reply.Reply.TheVariants.{Done, Bytes, Names, Error, File, Dir}
pub use Rattle.assise_names.specs.declared.reply.TreeError.{TreeError}
pub use Rattle.assise_names.specs.declared.reply.TreeError.TheVariants.{NoEnt, Exists, IsDir, Invalid, TooBig, NotDir, DirFull, NotEmpty}
pub use Rattle.assise_record.proofs.Shared.GroupRest.{group-effects, group-begins, group-ascending, group-shorter}
pub use Rattle.assise_record.specs.Coalesced.{covers, is_write_within, is_of_entry, overrides, overridden, coalesced}
pub use Rattle.assise_record.specs.Groups.{AreGroups, all_records, all_coalesced, are_whole, were, coalesced_group, left_of}
pub use Rattle.assise_record.specs.Touched.{touched_by}
pub use Rattle.assise_record.specs.declared.effect.Effect.{Effect}
pub use Rattle.assise_record.specs.declared.effect.Effect.TheVariants.{NewFile, NewDir, Write, SetLen, Link, Unlink, Free}
pub use Rattle.assise_seq_tree.proofs.Shared.BytesRead.{length-overwritten}
pub use Rattle.assise_seq_tree.proofs.Shared.Checks.{no_error, then_ok, same_is, not_begins}
pub use Rattle.assise_seq_tree.proofs.Shared.Moves.{Path, Disjoint, at-without_disjoint, without-put, ordered-without, parent_and_last, find_replace_there}
pub use Rattle.assise_seq_tree.proofs.Shared.Sets.{same_entries, one_name, tied, same_itself, shadowed}
pub use Rattle.assise_seq_tree.proofs.Shared.Sets.{find-set, find-remove, ordered-remove, ordered-set, swapped}
pub use Rattle.assise_seq_tree.proofs.Shared.Sets.{not_both, find_below, find_first, found_later}
pub use Rattle.assise_seq_tree.proofs.Shared.TreePut.{at-put, put-put, at_step, put_step}
pub use Rattle.assise_seq_tree.specs.Answer.{parent_of, last_name, answer, ◌>>=◌, as_directory, room_for, room_at, reply_and_tree, create_answer, mkdir_answer}
pub use Rattle.assise_seq_tree.specs.Answer.{read_answer, list_answer, stat_answer, file_at, entries_at, unlink_answer, rmdir_answer, may_receive}
pub use Rattle.assise_seq_tree.specs.Answer.{may_replace as tree_may_replace, tree_after_rename, rename_answer, tree_after_write, write_answer, truncate_answer}
pub use Rattle.assise_seq_tree.specs.Contents.{bytes_from, overwritten, resized, is_within}
pub use Rattle.assise_seq_tree.specs.Runs.{AreAnswered, tree_after_calls}
pub use Rattle.assise_seq_tree.specs.Tree.{opening as opening_tree, Tree, dir, Entries, no_entries, entry, same_name, find, IsBelow, AreOrdered, names_of}
pub use Rattle.assise_seq_tree.specs.Tree.{remove, IsOrdered, file, replace, count}
unfoldable pub use Rattle.assise_seq_tree.specs.Tree.{without, at, put}
pub use borrow.Rule.Slice.PartMut.{put_mid, mid_of, post_of}
