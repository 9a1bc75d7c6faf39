-- What the proofs of this crate name most.
pub use Rattle.std.proofs.Common.{◌≡◌, ℕ, zero, suc, ◌+◌, ◌-◌, ◌<◌, ◌≤◌, ◌||◌, ◌⊎◌, Bool, true, false, not, None, List, [], ◌∷◌, ◌++◌, length, take, drop}
pub use Rattle.std.proofs.Common.{get_or, ap, sym, ◌∙◌, refl, arith, inl, inr, cond, subst, length-take, length-drop, ◌^◌, ◌==◌, min, map, append_assoc}
pub use Rattle.std.proofs.Common.{append-nil, ◌↔◌, nat_lt, Option, Some, rules, Result, Err, IsOk, true≢false}
pub use Rattle.std.proofs.lemmas.Bool.{both_ways, cases_eq, cases_lt, cases_order, le-leb, lt-leb, not-true, eq-eqb, ne_eqb, or_parts}
pub use Rattle.std.proofs.lemmas.List.{get_or-drop, get_or_past, length_push, get_or-append_right, get_or-take, get_or_append_left, get_or_at, length-append}
pub use Rattle.std.proofs.lemmas.List.{map_push, take_min, drop_min}
pub use Rattle.std.specs.List.{prefix_len, slice_get, list_any, slice_index_or}
pub use Rattle.assise_private_log.specs.Borders.{IsNextBorder, IsWholeCount, group_end}
unfoldable pub use Rattle.assise_private_log.specs.Borders.{whole_count}
pub use Rattle.assise_private_log.specs.Groups.{groups_from, regrouped, with_group, with_groups, with_left}
pub use Rattle.assise_private_log.specs.NumberedLog.{HasOpenGroup, IsNumberedLog, NumberedLog, end, is_border, with_grouped, without_prefix, without_tail}
pub use Rattle.assise_private_log.specs.NumberedLog.{records_from, record_at}
pub use Rattle.assise_private_log.specs.Touches.{Covers, IsLastTouch, UntouchedFrom, found_touches, record_touches, touches, touches_after}
pub use Rattle.assise_record.proofs.Shared.GroupRest.{group-shorter}
pub use Rattle.assise_record.specs.Coalesced.{overridden, overrides}
pub use Rattle.assise_record.specs.Groups.{AllHaveEffects, all_coalesced, all_marks, all_records, are_whole, begun_by, coalesced_group, groups_of, left_in}
pub use Rattle.assise_record.specs.Groups.{marks_of, left_of}
pub use Rattle.assise_record.specs.LogRecord.{LogRecord}
pub use Rattle.assise_record.specs.Records.{all_effects, record_of}
