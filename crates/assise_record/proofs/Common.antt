-- What the proofs of this crate name most.
pub use Rattle.std.proofs.Common.{◌≡◌, ℕ, Bool, true, false, ◌==◌, cond, List, [], ◌∷◌, ◌++◌, Result, Ok, refl, sym, ap, subst, ◌∙◌, append_assoc, rules, ◌&&◌}
pub use Rattle.std.proofs.Common.{suc, ◌+◌, ◌^◌, ◌<◌, ◌≤◌, nat_lt, nat_le, ltb, length, get_or, take, drop, Err, arith, inl, inr, append-nil, length-append}
pub use Rattle.std.proofs.Common.{zero, ◌-◌, ◌||◌, map, if◌then◌else◌, ◌≢◌, ap₂, true≢false, Option, Some, None, not, slice_range, Bor, ◌*◌}
pub use Rattle.std.proofs.lemmas.Bool.{eqb-true, cases_lt, ltb-true, ltb-false, le-ltb, lt-ltb, leb-true, le-leb, and_parts, and_from, lt-leb, ne_eqb}
pub use Rattle.std.proofs.lemmas.Bool.{cases_Bool, false≢true, eq-eqb, or_cases, cases_eq, false_from_ne_true, and_right, or_right}
pub use Rattle.std.proofs.lemmas.List.{take_at, drop_at, take-append-drop, length-take, get_or-drop, get_or-take, get_or_past, get_or-append_right, length-drop}
pub use Rattle.std.proofs.lemmas.List.{length-map, drop-drop, nil_from_length, take-append-le, drop-append-le}
pub use Rattle.std.proofs.lemmas.List.Concat.{flat_map-cons}
pub use Rattle.std.proofs.lemmas.Result.{err_from_is_err_and}
pub use Rattle.std.specs.Cmp.Lexicographic.{pointwise, pointwise_decides, slice_cmp, texts_ties}
pub use Rattle.std.specs.List.{flat_map, AllByRecursion}
pub use Rattle.std.specs.Option.{option_to_list, option_copied}
pub use Rattle.std.specs.Prelude.{IsTrue, ◌⊎◌, IfOk, IfErr, IfSome, is_some, slice_get, slice_index_or, ◌↔◌, All}
pub use Rattle.std.specs.Str.{IsUtf8, is_utf8}
pub use Rattle.assise_names.specs.Name.{is_name}
pub use Rattle.assise_record.specs.Groups.{AllHaveEffects, AreGroups, all_records, all_coalesced, are_whole, all_marks, coalesced_group, groups_of, marks_of}
pub use Rattle.assise_record.specs.Groups.{left_of, left_in, begun_by, were}
pub use Rattle.assise_record.specs.Header.{Header}
pub use Rattle.assise_record.specs.LogFrame.{LogFrame, is_marked, HasMarks}
pub use Rattle.assise_record.specs.LogRecord.{LogRecord}
pub use Rattle.assise_record.specs.Patch.{Patch, IsPatch}
pub use Rattle.assise_record.specs.Reading.{◌>>=◌, number_at, guard, Read, byte_at, bytes_at, is_extent, name_in, HasCount, IsVersion, has_count, is_version}
pub use Rattle.assise_record.specs.Reading.{read_frame, FailsReading, rest_of, is_mark, GivesFrame, Exactly, IsRest}
unfoldable pub use Rattle.assise_record.specs.Reading.{extent_at, read_size, name_at, new_file_at, new_dir_at, write_at, set_len_at, link_at, unlink_at}
unfoldable pub use Rattle.assise_record.specs.Reading.{free_at, fields_at, effect_at, body_at, version_at, numbers_at, header_at, frame_at, many_at}
unfoldable pub use Rattle.assise_record.specs.Reading.{read_record, records_at, mark_at}
pub use Rattle.assise_record.specs.Records.{all_effects, has_some, record_of, call_of, Ascending}
pub use Rattle.assise_record.specs.Room.{Appends, BytesFit}
pub use Rattle.assise_record.specs.Spelling.{IsEffect, tag_of, fields_of, effect_spelling, patch_spelling, name_spelling, IsLogFrame, body_of, spelling}
pub use Rattle.assise_record.specs.Spelling.{SpellsFrame, BeginsWith, mark_spelling, record_spelling, IsLogRecord, header_of}
pub use Rattle.assise_record.specs.Unfinished.{HasLawfulFields, IsUnfinished, field}
pub use Rattle.assise_record.specs.Views.{EndsAt, effect_of}
pub use Rattle.assise_record.specs.declared.effect.Effect.{Effect}
pub use Rattle.assise_record.specs.declared.effect.Effect.TheVariants.{NewFile, NewDir, Write, SetLen, Link, Unlink, Free}
pub use Rattle.assise_record.specs.declared.fault.FrameFault.{FrameFault}
pub use Rattle.assise_record.specs.declared.fault.FrameFault.TheVariants.{BadLength, BadValue, Short, BadMagic, BadVersion, BadTag, Memory}
pub use Rattle.byteorder.specs.Endian.{big_bytes, big_number}
