-- What the proofs of this crate name most.
pub use Rattle.std.proofs.Common.{◌≡◌, ◌≤◌, ℕ, suc, List, [], ◌∷◌, length, take, get_or, refl, sym, ap, subst, arith, ◌∙◌, ◌++◌, Option, None, Some, ap₂}
pub use Rattle.std.proofs.Common.{append-nil, append_assoc, ◌+◌, Bool, true, false, drop, ◌<◌, take_all, drop-cons, Result, Ok, Err, length-append, ◌==◌, ◌⊎◌}
pub use Rattle.std.proofs.Common.{inl, inr, ◌≢◌, if◌then◌else◌, map, slice_set, IsSome, option_to_list, ◌↔◌, take-append-drop, is_some, zero, take-add}
pub use Rattle.std.proofs.Common.{slice_get, rules, ◌-◌, vec_len}
pub use Rattle.std.proofs.Math.Logic.{∥∥₁_elim, ∥∥₁_map}
pub use Rattle.std.proofs.lemmas.Bool.{cond_both, eqb-true, eq-eqb, ne_eqb}
pub use Rattle.std.proofs.lemmas.Bool.Decides.{eqb_tells}
pub use Rattle.std.proofs.lemmas.Grind.{flat_map-append}
pub use Rattle.std.proofs.lemmas.List.{nil_from_length, drop_all, map-append, take_more, drop-set, set-get_or, take-set, append_cancel_left}
pub use Rattle.std.specs.Io.KnownBytes.{Appends}
pub use Rattle.std.specs.List.{AllByRecursion, AllZip}
pub use Rattle.std.specs.Prelude.{IfSome, ⊤, filter, IsOk, is_ok, vec_capacity}
pub use Rattle.assise_console.specs.Lines.{line_text}
pub use Rattle.assise_console.specs.OneEvent.{IsOneAt}
pub use Rattle.assise_console.specs.Steps.{is_made, is_out, IsVerdict, SetsHot, Shows, is_verdict, is_shown, lacks_memory, lacks_room, is_refused as not_shown}
pub use Rattle.assise_console.specs.declared.response.Response.{Response}
pub use Rattle.assise_console.specs.declared.response.Response.TheVariants.{Carried, Refused, Quiet, Client, Replied, Tree as Shown, History as Whole, Checked}
pub use Rattle.assise_fault_script.specs.declared.command.Command.{Command}
pub use Rattle.assise_fault_script.specs.declared.command.Command.TheVariants.{Call, Open, Cluster, Manual, Carry, Link, Back, History, Hot, Digest, Release}
pub use Rattle.assise_fault_script.specs.declared.command.Command.TheVariants.{Crash, Fail, Refill, Join, Raise, Tree, Check}
pub use Rattle.assise_fault_script.specs.declared.parse.NumberedCommand.{NumberedCommand}
pub use Rattle.assise_history.specs.Entries.{EntryValue, opens, calls}
pub use Rattle.assise_history.specs.Legal.{IsLegal, calls_made}
pub use Rattle.assise_keeper.proofs.Shared.LedStates.{led_from}
pub use Rattle.assise_keeper.proofs.Shared.PassAdds.{opened-in, openings-append, calls-append, extends-same, all-openings-append, drop-prefix, no_openings}
pub use Rattle.assise_keeper.specs.Clients.{calls_by, openings_of, Extends, openings, calls_of, MayAddAll, MayGive, added, client_after}
pub use Rattle.assise_keeper.specs.Passes.{last, seen, client, mine, taken}
pub use Rattle.assise_keeper.specs.Rule.{IsLed}
pub use Rattle.assise_keeper.specs.declared.pass.Pass.{Pass}
pub use Rattle.assise_keeper.specs.declared.view.Opens.{Opens}
pub use Rattle.assise_keeper.specs.declared.view.Opens.TheVariants.{Alone, Never}
pub use Rattle.assise_libfs.specs.Clients.{IsSameClient, client_of, keeper_of, limit_of, seen_by, pass_of}
pub use Rattle.assise_libfs.specs.InTurns.{IsPassTurn, EndsBy, EndsUntried, HasWaited, InOneTurn, TurnsTo}
pub use Rattle.assise_libfs.specs.Lives.{EndsWithOpening}
pub use Rattle.assise_libfs.specs.declared.libfs.LibFs.{LibFs}
pub use Rattle.assise_machine.specs.Clusters.{machine}
pub use Rattle.assise_machine.specs.Following.{IsLedTo, IsWorkedTo, led_by, led_to_itself, worked_on, worked_to_itself}
pub use Rattle.assise_machine.specs.declared.cluster.ClusterOf.{ClusterOf}
pub use Rattle.assise_model_events.specs.Events.{Answer, ClusterEvent, back, crash, digest, fail, join, raise, refill, release_ready, set_hot, open_client}
pub use Rattle.assise_model_events.specs.Events.{opened, refused}
pub use Rattle.assise_model_events.specs.Machine.{Machine, MachineInvariant, state_of}
pub use Rattle.assise_names.specs.declared.call.Op.{Op}
pub use Rattle.assise_names.specs.declared.durability.Durability.{Durability}
pub use Rattle.assise_names.specs.declared.limits.TheConstants.{MOST_NODES}
pub use Rattle.assise_names.specs.declared.refusal.Refusal.{Refusal}
pub use Rattle.assise_names.specs.declared.refusal.Refusal.TheVariants.{BadClient, OutOfMemory, Busy, BadNode, WrongPhase, NodeDown}
pub use Rattle.assise_names.specs.declared.reply.Reply.{Reply}
pub use Rattle.assise_rounds.specs.Traces.{Told}
pub use Rattle.assise_threads.specs.Answered.{AnswersCommand, OpensOne, is_nowhere, is_opened, is_refused, lacks_revoker, is_replied, CarriesSome, is_carried}
pub use Rattle.assise_threads.specs.Answered.{ComesBackInTakes, IsCallAnswered, is_busy, joins, stops_filling, HasFilled, HasTried, IsNoRefusal}
pub use Rattle.assise_threads.specs.AtKeeper.{AreAt, HaveTurns, AreClients}
pub use Rattle.assise_threads.specs.Begun.{machine_begun, machine_made}
pub use Rattle.assise_threads.specs.CallsAhead.{calls_ahead, counts_call, AreSaidNext, is_one, is_stretch}
pub use Rattle.assise_threads.specs.ClientTurns.{TurnedThere, HappensSoundly, history_seen, versions_read}
pub use Rattle.assise_threads.specs.Fronts.{HearsLine, HearsOn, HearsOpening, IsOpenedThen}
pub use Rattle.assise_threads.specs.Hearing.{HasHeard, sight_of, HearsStretch, sights, calls_of_sight}
pub use Rattle.assise_threads.specs.Lacking.{without_revoker, LacksRevoker}
pub use Rattle.assise_threads.specs.LastSeen.{machine_seen}
pub use Rattle.assise_threads.specs.OneHistory.{AreMet, CoversSight, HasToldCalls, IsHeard, Covers}
pub use Rattle.assise_threads.specs.Openings.{Sights, opened_by, opening_in, openings_said, with_opened, OpensNone}
pub use Rattle.assise_threads.specs.Runs.{IsThreadRun, IsSaid, IsRunSaid, serial_line}
pub use Rattle.assise_threads.specs.Said.{Said, said_line, said_lines, TellsClient, call_in, calls_in, commands_said, outcome_answer, TellsCall}
pub use Rattle.assise_threads.specs.Spoken.{AreAllSaid, IsOneSaid, IsStretchSaid}
pub use Rattle.assise_threads.specs.Stretches.{AreCalls, IsClientCall, AreCallsSaid, AreTold, HasAllOf, IsCallSaid, TakesFirst, Untold, next_or_none}
pub use Rattle.assise_threads.specs.Stretches.{outcomes_of, HasCalls, MakesCalls, libfs_at, outcomes_at, sight_at, untold}
pub use Rattle.assise_threads.specs.Takes.{Happened, InOneTake, AddsNobodys, AreNobodys}
pub use Rattle.assise_threads.specs.Threads.{DoesTake, main_seen, main_keeper}
pub use Rattle.assise_workers.proofs.Shared.Lists.{told-append, extends-on}
pub use Rattle.assise_workers.specs.ClusterTurns.{cluster_acts, cluster_history, cluster_reads}
pub use Rattle.assise_workers.specs.Told.{told_all, SeesAll, AreCallsMade, Turned}
