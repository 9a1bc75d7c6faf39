-- What the proofs of this crate name most.
pub use Rattle.std.proofs.Common.{◌≡◌, ℕ, suc, ◌+◌, ◌<◌, ◌≤◌, Bool, true, false, cond, ◌||◌, ◌⊎◌, Option, Some, None, IfSome, List, [], ◌∷◌, take, drop, length}
pub use Rattle.std.proofs.Common.{get_or, refl, sym, ap, ◌∙◌, rules, arith, Bor, inl, inr, eqb, subst, ◌&&◌, not, zero, true≢false, add-one, IsSome, ◌-◌, map}
pub use Rattle.std.proofs.Common.{◌++◌, ◌≢◌, is_some, eqb-true, ltb, one-add, vec_len, vec_capacity}
pub use Rattle.std.proofs.Math.Seq.{take-append_seam, take-suc}
pub use Rattle.std.proofs.lemmas.Bool.{cases_order, and_parts, and_from, or_cases, or_left, or_right, cond_both, eqb-false, leb-true, le-leb, eq-eqb}
pub use Rattle.std.proofs.lemmas.Bool.{false_from_ne_true, ltb-true, lt-ltb, ne_eqb}
pub use Rattle.std.proofs.lemmas.List.{take-append-drop, length-append, length-map, length-set, map-set, map-append, drop-map, take_all}
pub use Rattle.std.proofs.lemmas.List.Folds.{list_any-append, list_any_at}
pub use Rattle.std.proofs.lemmas.Map.Keys.{sorted_from_strictly_increasing, below_from_sorted, IsStrictlyIncreasing-dedup}
pub use Rattle.std.proofs.lemmas.Option.{none-some, same_Some, slice_get-map}
pub use Rattle.std.specs.Cmp.{IsEquivalence, nat_cmp_total, Equal-is, tied_itself, nat_cmp_is, unsigned_tied}
pub use Rattle.std.specs.FinSet.{members, from_list, contains-from_list, contains-insert, contains-remove, contains-empty, len-insert, nat_cmp-IsAntisymmetric}
pub use Rattle.std.specs.FinSet.{contains-union, same_set, from_list_push}
pub use Rattle.std.specs.List.{list_any, insert, dedup, slice_index_or, slice_get, AllByRecursion, slice_set, list_all}
pub use Rattle.std.specs.List.Sorted.{IsNonDecreasingBy, IsPartitionPoint, IsPermutation}
unfoldable pub use Rattle.std.specs.List.Sorted.{IsStrictlySortedBy}
pub use Rattle.std.specs.Option.{option_map}
pub use Rattle.std.specs.Ordering.{nat_cmp, eq_by_cmp, is_lt, is_gt, is_eq, ordering_index}
pub use Rattle.std.specs.Prelude.{option_copied, Result, Ok, Err, OnOk, OnErr, ◌==◌, nat_le, nat_eq}
pub use Rattle.assise_manager.specs.Changes.{IsLowest, with_written, fulls, all_full, with_node, refilled_from, with_new_donor, with_epoch, failed_as, failed}
pub use Rattle.assise_manager.specs.Changes.{failure_fault_of, failure_fault, back_as, back, return_fault_of, return_fault, is_away, filling_fault_of}
pub use Rattle.assise_manager.specs.Changes.{filling_fault, copied_as, with_copied, joined, join_fault, stale_again, donor_of, noted, raised, is_returning}
pub use Rattle.assise_manager.specs.Changes.{stale_of, IsLowestOf}
pub use Rattle.assise_manager.specs.Membership.{Membership, IsMembership, first_listed, all_inodes, written_since, lowest_full, is_listed, is_known}
pub use Rattle.assise_manager.specs.NodeLevels.{greater, joined_levels, level_of, plains}
pub use Rattle.assise_manager.specs.Seen.{listed_inodes, has_list_room, has_node_room, has_last_room, standing, stale_inodes, listed_since, lowest_besides}
pub use Rattle.assise_manager.specs.Standings.{Standing, is_full, full_nodes, standing_of, with_standing, returning, full_from}
pub use Rattle.assise_manager.specs.Standings.Standing.{full, down}
pub use Rattle.assise_manager.specs.Whole.{membership}
pub use Rattle.assise_manager.specs.declared.level.Level.{Level}
pub use Rattle.assise_manager.specs.declared.level.Level.TheVariants.{Marked, Plain}
pub use Rattle.assise_manager.specs.declared.written_list.WrittenList.{WrittenList}
pub use Rattle.assise_names.specs.declared.refusal.Refusal.TheVariants.{BadNode, WrongPhase, LastNode}
pub use Rattle.indexmap.specs.IndexSet.{insert_key, spare}
