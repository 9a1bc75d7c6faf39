-- What the proofs of this crate name most.
pub use Rattle.std.proofs.Common.{◌≡◌, ℕ, ◌+◌, ◌<◌, true, false, List, [], ◌∷◌, ◌++◌, length, take, drop, get_or, refl, ap, sym, subst, ◌∙◌, ◌≤◌, if◌then◌else◌}
pub use Rattle.std.proofs.Common.{◌==◌, filter, inl, inr, arith, eqb-true, eq-eqb, ne_eqb, ◌↔◌, append_assoc, Bool, ◌||◌, ◌⊎◌, zero, suc, nat_le, not, ◌&&◌}
pub use Rattle.std.proofs.Common.{Contains, leb-true, le-leb, Bor, map, IsTrue, Option, Some, None, rules, nat_lt, set, ltb-true, append-nil, codes, ◌-◌, ◌^◌}
pub use Rattle.std.proofs.Common.{min}
pub use Rattle.std.proofs.lemmas.Bool.{both_ways, cases_Bool, or_parts, or_from, false_from_ne_true, or_cases, or_left, or_right, lt-ltb, not-true}
pub use Rattle.std.proofs.lemmas.Bool.{not_from_false}
pub use Rattle.std.proofs.lemmas.Fn.{filter_same}
pub use Rattle.std.proofs.lemmas.List.{take_more, take-append-drop, length-append, map-append, length-map, get_or_default}
pub use Rattle.std.proofs.lemmas.List.Elements.{filter-append, Contains-append_right, Contains-append_cases}
pub use Rattle.std.proofs.lemmas.List.Folds.{list_any-append}
pub use Rattle.std.specs.Fmt.{HasWritten, IsPlainFormatter, decimal}
pub use Rattle.std.specs.List.{list_any, list_all, flat_map}
pub use Rattle.assise_history.specs.Entries.{EntryValue, opens, calls, fails, crashes, returns}
pub use Rattle.assise_history.specs.Kept.{kept, kept_more, IsRun, IsTaken, Stays, loses, is_lost, tree_after}
pub use Rattle.assise_history.specs.Legal.{Fits, IsNextCall, MayOpen, is_opening, is_call_of, clients_opened, calls_made, durability_of, opened_as, IsDown}
pub use Rattle.assise_history.specs.Legal.{IsOpenedOn, IsPastSyncs, MayCall, is_crash_of, is_failure_of, is_return_of, syncs, IsAlive, IsFair, MayFollow}
pub use Rattle.assise_history.specs.Legal.{is_sync, MayLose, ClientsAscend}
unfoldable pub use Rattle.assise_history.specs.Legal.{IsLegal}
pub use Rattle.assise_history.specs.Payload.{name_bytes, payload, payloads}
pub use Rattle.assise_history.specs.Played.{Goes, IsPlayed, played_calls}
pub use Rattle.assise_history.specs.Summary.{follows, summary, summed_from, summary_after, Summary, nothing_yet, newly_opened, summary_with_call, with_crash}
pub use Rattle.assise_history.specs.Summary.{with_failure, is_down, comes_next, is_past, ascend_from, makes_next_call, may_lose}
pub use Rattle.assise_history.specs.Text.{loss_text, entry_line}
pub use Rattle.assise_history.specs.declared.call.Call.{Call}
pub use Rattle.assise_history.specs.declared.call.Loss.{Loss}
pub use Rattle.assise_history.specs.declared.prefix.ClientSummary.{ClientSummary}
pub use Rattle.assise_names.specs.declared.durability.Durability.{Durability}
pub use Rattle.assise_seq_tree.specs.Answer.{answer}
pub use Rattle.assise_seq_tree.specs.Tree.{opening, Tree}
