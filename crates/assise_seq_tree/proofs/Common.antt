-- What the proofs of this crate name most.
pub use Rattle.std.proofs.Common.{◌≡◌, ℕ, zero, suc, ◌+◌, ◌-◌, ◌≤◌, ◌<◌, List, [], ◌∷◌, ◌++◌, length, take, drop, replicate, ap, sym, ◌∙◌, arith, append-nil}
pub use Rattle.std.proofs.Common.{length-append, refl, append_assoc, Bool, true, false, cond, ◌==◌, nat_le, is_some, Result, Ok, Err, subst, ◌≢◌, not, Some}
pub use Rattle.std.proofs.Common.{◌⊎◌, inl, inr, Ordering, Less, Equal, Greater, nat_cmp, None, BTreeMap, OnOk, OnErr, ◌↔◌, Bor, IfOk, IsTrue, Option, map, ◌^◌}
pub use Rattle.std.proofs.Common.{min, get_or, IsErr, MutBor, MatchResult, rules}
pub use Rattle.std.proofs.Output.{has_written_append, has_written_of_eq}
pub use Rattle.std.proofs.lemmas.Bool.{cases_Bool, or_parts, false≢true, cond_both}
pub use Rattle.std.proofs.lemmas.Bool.Decides.{nat_tests}
pub use Rattle.std.proofs.lemmas.Cmp.{nat_list_cmp_total}
pub use Rattle.std.proofs.lemmas.List.{take_all, drop_all, length-replicate, take-replicate, length-take, length-drop, take_at, drop_at, take-take}
pub use Rattle.std.proofs.lemmas.List.{take-append-le, drop-take, drop-drop, take_min, length-map, map-append, take_rest, nil_from_length}
pub use Rattle.std.proofs.lemmas.Result.{on_ok_weaker, on_err_weaker}
pub use Rattle.std.specs.BTreeMap.{is_at, insert_entry, get, get_by}
pub use Rattle.std.specs.Cmp.{tied_itself}
pub use Rattle.std.specs.Cmp.Lexicographic.{slice_cmp}
pub use Rattle.std.specs.Fmt.{HasWritten, IsPlainFormatter}
pub use Rattle.std.specs.List.{AllByRecursion, Contains, flat_map}
unfoldable pub use Rattle.std.specs.List.Sorted.{IsStrictlySortedBy}
pub use Rattle.std.specs.Map.{lookup, set_value, remove_entry, keys_of, values_of}
pub use Rattle.std.specs.Option.{option_map_or, option_copied, option_copied_mut}
pub use Rattle.std.specs.Ordering.{match_ordering, is_eq, ordering_reverse, on}
pub use Rattle.std.specs.Prelude.{max, nat_lt, ◌||◌, if◌then◌else◌, slice_get, unwrap_or}
pub use Rattle.assise_names.specs.Path.{same_path, is_proper_prefix, path_spelling}
pub use Rattle.assise_names.specs.declared.call.Op.{Op}
pub use Rattle.assise_names.specs.declared.call.Op.TheVariants.{Create, Mkdir, Read, Write, Truncate, Rename, Unlink, Rmdir, List as ListCall, Stat, Fsync}
pub use Rattle.assise_names.specs.declared.call.Op.TheVariants.{Dsync}
pub use Rattle.assise_names.specs.declared.reply.Reply.{Reply}
pub use Rattle.assise_names.specs.declared.reply.Reply.TheVariants.{Done, Bytes, Names, Error, File}
pub use Rattle.assise_names.specs.declared.reply.TreeError.{TreeError}
pub use Rattle.assise_names.specs.declared.reply.TreeError.TheVariants.{Exists, TooBig, DirFull, Invalid, NoEnt, IsDir, NotDir}
pub use Rattle.assise_seq_tree.specs.Answer.{◌>>=◌, answer, as_directory, parent_of, last_name, room_for, room_at, file_at, entries_at, may_rename, may_unlink}
pub use Rattle.assise_seq_tree.specs.Answer.{may_rmdir, reply_and_tree, IsDisjointFrom, description_of, may_receive, as_file, vacant, unlink_answer}
pub use Rattle.assise_seq_tree.specs.Answer.{rmdir_answer, stat_answer, read_answer, truncate_answer, list_answer, rename_answer, write_answer}
pub use Rattle.assise_seq_tree.specs.Answer.{tree_after_write}
pub use Rattle.assise_seq_tree.specs.Contents.{overwritten, bytes_from, resized, is_within}
pub use Rattle.assise_seq_tree.specs.Lines.{Place, places_below, places_of, place_line, counted}
pub use Rattle.assise_seq_tree.specs.Sameness.{ArePairsSame, size_of_pairs}
pub use Rattle.assise_seq_tree.specs.Traversals.{places_left}
pub use Rattle.assise_seq_tree.specs.Tree.{Tree, file, dir, Entries, no_entries, find, count, IsWithinLimits, opening, IsOrdered, names_of, AreDisjointPaths}
pub use Rattle.assise_seq_tree.specs.Tree.{entry, replace, insert, remove, same_name, set, AreOrdered, size_of, sizes_of, IsBelow, AreWithinLimits}
unfoldable pub use Rattle.assise_seq_tree.specs.Tree.{at, put, without}
pub use Rattle.assise_seq_tree.specs.View.{map_entries, tree_of}
