-- What the proofs of this crate name most.
pub use Rattle.std.proofs.Common.{◌≡◌, ◌≤◌, ℕ, ◌+◌, Bool, true, false, ◌||◌, nat_lt, List, [], ◌∷◌, Option, Some, None, Result, Ok, Err, All, refl, ap, sym}
pub use Rattle.std.proofs.Common.{subst, inl, inr, arith, ◌^◌, ◌<◌, length, MatchResult, not, ◌==◌, rules, ◌++◌, ◌∙◌, append_assoc, ◌-◌, take, drop}
pub use Rattle.std.proofs.Common.{slice_index, ◌≢◌, Bor, MatchOption, map, filter, length-drop, IsOk, zero, suc, lit<, ◌⊎◌, length-append, nat_le, replicate}
pub use Rattle.std.proofs.Common.{◌*◌, vec_len, vec_capacity}
pub use Rattle.std.proofs.Math.Seq.{take-append_seam}
pub use Rattle.std.proofs.lemmas.Bool.{cases_Bool, and_parts, eqb-true}
pub use Rattle.std.proofs.lemmas.Bool.Decides.{nat_tests}
pub use Rattle.std.proofs.lemmas.List.{append-nil, take_all, length-map}
pub use Rattle.std.proofs.lemmas.List.Splits.{slice_split_first, slice_split_none, length-slice_split}
pub use Rattle.std.proofs.lemmas.List.Sums.{fails_before_first, position_or_len_is}
pub use Rattle.std.proofs.lemmas.Str.Pattern.{IsSplitOnceResult, split_once_first, strip_prefix_char}
pub use Rattle.std.specs.List.{list_all, slice_split, position, position_or_len}
pub use Rattle.std.specs.Prelude.{is_some}
pub use Rattle.std.specs.Str.{is_utf8, IsUtf8}
pub use Rattle.assise_fault_script.specs.Calls.{call_command, call_word, of_path, path_word}
pub use Rattle.assise_fault_script.specs.Data.{byte_of_hex, hex_bytes, data_of}
pub use Rattle.assise_fault_script.specs.Fault.{◌>>=◌}
pub use Rattle.assise_fault_script.specs.Keywords.{keyword_command, keyword_of, kind_of, link_kind_of, mode_of, says_cut, cluster_of, cut_link_of}
pub use Rattle.assise_fault_script.specs.Keywords.{uncut_link_of, hot_capacity_of}
pub use Rattle.assise_fault_script.specs.Line.{begins_with_digit, client_command, cluster_there, command_of, in_turn, is_comment, line_says, nameless_call}
pub use Rattle.assise_fault_script.specs.Line.{other_command, AnswersLine}
pub use Rattle.assise_fault_script.specs.Number.{in_limits, limited, is_digit, is_digits, value_behind, decimal_value}
unfoldable pub use Rattle.assise_fault_script.specs.Number.{number_of}
pub use Rattle.assise_fault_script.specs.Script.{◌>>>◌, IsCluster, IsOther, ClusterFirst, at_line, commands_from, commands_of, numbered_command, Progress}
pub use Rattle.assise_fault_script.specs.Script.{with_line, next, IsLineReached, IsCommandAt}
pub use Rattle.assise_fault_script.specs.Words.{lines_of, words_of, is_line_feed, without_return, without_returns, is_space, is_word}
pub use Rattle.assise_fault_script.specs.declared.command.Command.{Command}
pub use Rattle.assise_fault_script.specs.declared.command.Command.TheVariants.{Cluster, Manual, Open, Call, Carry, Digest, Release, Crash, Fail, Back, Refill}
pub use Rattle.assise_fault_script.specs.declared.command.Command.TheVariants.{Join, Raise, Link, Hot, Tree, History, Check}
pub use Rattle.assise_fault_script.specs.declared.command.Keyword.TheVariants.{Cluster as for_cluster, Manual as for_manual, Open as for_open}
pub use Rattle.assise_fault_script.specs.declared.command.Keyword.TheVariants.{Carry as for_carry, Digest as for_digest, Release as for_release}
pub use Rattle.assise_fault_script.specs.declared.command.Keyword.TheVariants.{Crash as for_crash, Fail as for_fail, Back as for_back, Refill as for_refill}
pub use Rattle.assise_fault_script.specs.declared.command.Keyword.TheVariants.{Join as for_join, Raise as for_raise, Link as for_link, Hot as for_hot}
pub use Rattle.assise_fault_script.specs.declared.command.Keyword.TheVariants.{Tree as for_tree, History as for_history, Check as for_check}
pub use Rattle.assise_fault_script.specs.declared.fault.LineFault.{LineFault}
pub use Rattle.assise_fault_script.specs.declared.fault.ScriptFault.{ScriptFault}
pub use Rattle.assise_fault_script.specs.declared.fault.ScriptFault.TheVariants.{BadLimit, UnknownCommand, WrongCount, BadNumber, BadData, Memory}
pub use Rattle.assise_fault_script.specs.declared.parse.NumberedCommand.{NumberedCommand}
