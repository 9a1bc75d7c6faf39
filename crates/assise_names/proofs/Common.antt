-- What the proofs of this crate name most.
pub use Rattle.std.proofs.Common.{◌≡◌, ◌≤◌, ◌<◌, ℕ, ◌+◌, ◌-◌, true, List, [], length, get_or, sym, ◌∙◌, arith, nat_cmp, ◌==◌, ◌∷◌, Bool, false, Ok, Err, ap}
pub use Rattle.std.proofs.Common.{zero, suc, ◌/◌, ◌%◌, nat_lt, ◌&&◌, inl, inr, ◌++◌, refl, ap₂, slice_index, Result, Option, Some, None, Bor, MatchOption}
pub use Rattle.std.proofs.Common.{append_assoc, lit<, ◌⊎◌, ◌≢◌, ◌||◌, nat_le, drop, map, length-append, take, IsTrue, All, IsOkUnless, MatchResult, is_ok}
pub use Rattle.std.proofs.Common.{append-nil, IfOk, subst, IsOk, rules, ◌*◌}
pub use Rattle.std.proofs.Output.{has_written_append, has_written_of_eq}
pub use Rattle.std.proofs.lemmas.Bool.{and_parts, cases_lt, eqb-true, ltb-true, cases_Bool, leb-true, not-true, le-ltb, ltb-false, le-leb}
pub use Rattle.std.proofs.lemmas.Bool.Decides.{nat_tests}
pub use Rattle.std.proofs.lemmas.List.{get_or_default, at_drop_all, at_drop_more}
pub use Rattle.std.proofs.lemmas.List.Elements.{All-nil, All-cons, All-head, All-tail, All-push}
pub use Rattle.std.proofs.lemmas.List.Splits.{slice_split_first, slice_split_none, slice_split_at, join_with_byte-slice_split}
pub use Rattle.std.proofs.lemmas.Result.{err_from_is_err_and}
pub use Rattle.std.proofs.lemmas.Str.{is_utf8-from_IsUtf8, IsUtf8-from_ascii}
pub use Rattle.std.proofs.lemmas.Str.Pattern.{IsSplitOnceResult, split_once_first, split_parts, strip_prefix_char}
pub use Rattle.std.specs.Cmp.Lexicographic.{slice_cmp, pointwise}
pub use Rattle.std.specs.Fmt.{digits, digit_glyph, HasWritten, IsPlainFormatter}
pub use Rattle.std.specs.List.{slice_split, list_all, list_any, join_with_byte, flat_map}
pub use Rattle.std.specs.List.Sorted.{IsStrictlySortedBy}
pub use Rattle.std.specs.Map.{keys_of}
pub use Rattle.std.specs.Slice.Iter.{chunks_rest, chunks_size}
pub use Rattle.std.specs.Str.{IsAscii, is_utf8, IsUtf8}
pub use Rattle.assise_names.specs.Name.{name_of, is_barred, is_dots, is_name}
pub use Rattle.assise_names.specs.Path.{◌>>=◌, no_deeper, path_behind, path_of_pieces, pieces_as_names, path_of, names_behind, with_prefix, IsProperPrefix}
pub use Rattle.assise_names.specs.Path.{IsPath, SpellsPath, path_spelling, GivesPath, name_count}
pub use Rattle.assise_names.specs.Text.{hex, hex_byte}
pub use Rattle.assise_names.specs.declared.path.PathFault.{PathFault}
pub use Rattle.assise_names.specs.declared.path.PathFault.TheVariants.{BadName, EmptyName, Memory, NameTooLong, NotAbsolute, TooDeep}
pub use Rattle.hex.specs.Hex.{IsBytes, encode_lower, lower_digits}
unfoldable pub use Rattle.hex.specs.Hex.{encode_with}
