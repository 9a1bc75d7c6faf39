-- What the proofs of this crate name most.
pub use Rattle.std.proofs.Common.{◌≡◌, ℕ, ◌<◌, Bool, true, false, List, [], ◌∷◌, ◌++◌, refl, ap, sym, subst, ◌∙◌, ◌≤◌, inl, inr, arith, zero, suc, length}
pub use Rattle.std.proofs.Common.{Option, Some, None, is_some, true≢false, ◌-◌, map, replicate, slice_set, nat_le, Result, Ok, Err, OnOk, append_assoc}
pub use Rattle.std.proofs.Common.{append-nil, get_or, ltb, IsOk, ◌^◌, OnErr, ◌↔◌, IsTrue, rules, ◌+◌, take, ap₂, ◌&&◌, ◌||◌, not, codes, slice_index}
pub use Rattle.std.proofs.lemmas.Bool.{cases_lt, cases_Bool, leb-true}
pub use Rattle.std.proofs.lemmas.List.{take_more, get_or-map, length-map}
pub use Rattle.std.proofs.lemmas.Result.{on_ok_weaker, IfOk-weaker, err_from_is_err_and}
pub use Rattle.std.proofs.lemmas.Slice.Eq.{bytes_eq-Decides}
pub use Rattle.std.specs.Fmt.{WritesInCalls, HasWritten, IsPlainFormatter}
pub use Rattle.std.specs.Io.KnownBytes.{Appends, Keeps}
pub use Rattle.std.specs.List.{All, slice_index_or, FoldsTo, concat, list_all, flat_map}
pub use Rattle.std.specs.Prelude.{find, option_map, slice_get, ⊤, pos}
pub use Rattle.std.specs.Str.{bytes_eq}
pub use Rattle.assise_console.specs.CommandLine.{named, script_rule, turns_rule, number_written, program, reads_true, threads_rule}
unfoldable pub use Rattle.assise_console.specs.CommandLine.{faults_of, is_taken}
pub use Rattle.assise_console.specs.Consoles.{console_seen, stocks}
pub use Rattle.assise_console.specs.Lines.{Prints, line_text, answer_text, numbered_line, lost_call_text}
pub use Rattle.assise_console.specs.OneEvent.{IsOne, IsOneAt, Tells, TellsAt}
pub use Rattle.assise_console.specs.State.{ConsoleState, Stocks, begun_console, stock_of, with_machine, with_stock}
pub use Rattle.assise_console.specs.Steps.{Calls, CarriesFrames, IsVerdict, Returns, Serves, SetsHot, SetsLink, is_carried, is_verdict, is_linked, is_made}
pub use Rattle.assise_console.specs.Steps.{is_nowhere, is_out, is_refused, lacks_room, link_kind, CallsOften, Changes, OpensClient, ReturnsWhole, Shows}
pub use Rattle.assise_console.specs.Steps.{call_answer, is_shown, lacks_memory, return_answer}
pub use Rattle.assise_console.specs.declared.response.Response.{Response}
pub use Rattle.assise_console.specs.declared.response.Response.TheVariants.{Checked, Refused, Linked, Carried, Tree as Shown, Quiet, Client, Replied, Waits}
pub use Rattle.assise_console.specs.declared.response.Response.TheVariants.{Digested, Released, HotSet, Crashed, Failed, Began, Left, Returned, Raised, Tree}
pub use Rattle.assise_console.specs.declared.response.Response.TheVariants.{History}
pub use Rattle.assise_fault_script.specs.declared.command.LinkKind.{LinkKind}
pub use Rattle.assise_fault_script.specs.declared.command.RevokerKind.{RevokerKind}
pub use Rattle.assise_fault_script.specs.declared.command.RevokerKind.TheVariants.{Least, Whole, Eights}
pub use Rattle.assise_fault_script.specs.declared.parse.NumberedCommand.{NumberedCommand}
pub use Rattle.assise_history.specs.Legal.{IsLegal, durability_of}
pub use Rattle.assise_link.specs.Kinds.{Kind, perfect}
pub use Rattle.assise_link.specs.TestLinks.{kind_of_link}
pub use Rattle.assise_machine.proofs.Shared.Few.{few_nodes, few_clients}
pub use Rattle.assise_machine.specs.Clusters.{machine, revokers}
pub use Rattle.assise_machine.specs.Running.{IsServed, happens, stock_after, opened_answer}
pub use Rattle.assise_machine.specs.declared.cluster.ClusterOf.{ClusterOf}
pub use Rattle.assise_model_events.specs.Events.{ClusterEvent, all_entries, back, crash, fail, join, raise, refill, set_hot, try_call, refused, Answer, digest}
pub use Rattle.assise_model_events.specs.Events.{open_client, release_ready, digested, not_yet, opened, released, replied, hot_set}
pub use Rattle.assise_model_events.specs.Faults.{node_fault, client_fault, fault_if, is_client, open_fault, or_else, unless_full}
pub use Rattle.assise_model_events.specs.Happenings.{Trying, Happens}
pub use Rattle.assise_model_events.specs.Machine.{Machine}
pub use Rattle.assise_model_events.specs.NodeEvents.{Digesting, SettingHot, is_refused as node_refused, Releasing, Sending}
pub use Rattle.assise_model_world.specs.World.{World, alone_at}
pub use Rattle.assise_names.specs.declared.call.Op.{Op}
pub use Rattle.assise_names.specs.declared.durability.Durability.{Durability}
pub use Rattle.assise_names.specs.declared.limits.TheConstants.{MOST_NODES, MOST_CLIENTS}
pub use Rattle.assise_names.specs.declared.refusal.Refusal.{Refusal}
pub use Rattle.assise_names.specs.declared.refusal.Refusal.TheVariants.{OutOfMemory, BadNode, BadClient, NodeDown, WrongPhase}
pub use Rattle.assise_rounds.specs.Traces.{IsEventTrace, Told}
pub use Rattle.clap.proofs.CallerLemmas.{default_present, entry_by_id, same_rules_by_id, required_has_value, some_of_text}
pub use Rattle.clap.specs.Built.{IsAuto, IsParsedFrom, IsPlain, SameRules}
pub use Rattle.clap.specs.Facts.{Entry, EntryPasses, WantsDefault, args_of, groups_of, least_values, parser_of, parser_of_value, unwrap_or_range}
pub use Rattle.clap.specs.Matches.{found_of, matched_of, one_text, first_value, ReadsOne}
pub use Rattle.clap.specs.Values.{Accepts, read_as, reading_of, IsSignedIn}
pub use Rattle.clap.specs.Walk.{Text, Rule, first_of, one_of, rule_of}
pub use Rattle.clap.specs.Words.{app_of, with_rule, HasKind, fault_of, is_simple_and_free, kind_of, takes, without_minus}
pub use Rattle.clap.specs.declared.builder.arg.Arg.{Arg}
pub use Rattle.clap.specs.declared.builder.command.Command.{Command}
pub use Rattle.clap.specs.declared.parser.matches.ArgMatches.{ArgMatches}
