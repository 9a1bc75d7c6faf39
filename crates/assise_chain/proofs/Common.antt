-- What the proofs of this crate name most.
pub use Rattle.std.proofs.Common.{◌≡◌, ℕ, ◌<◌, ◌==◌, Bool, true, false, if◌then◌else◌, List, [], ◌∷◌, ◌++◌, Some, None, ap, sym, refl, subst, arith, inl, inr}
pub use Rattle.std.proofs.Common.{filter, nat_lt, nat_le, zero, suc, ◌+◌, ◌-◌, ◌≤◌, length, take, drop, ◌∙◌, min, max, cond, get_or, ◌⊎◌, ◌≢◌, Option, Bor, map}
pub use Rattle.std.proofs.Common.{append_assoc, rules}
pub use Rattle.std.proofs.lemmas.Bool.{ne_eqb, cases_lt, both_ways}
pub use Rattle.std.proofs.lemmas.Iterator.{YieldsList, YieldsList-from_slice}
pub use Rattle.std.proofs.lemmas.List.{length-take, length-drop, length-take-le}
pub use Rattle.std.specs.List.{slice_get, AllByRecursion, FoldsTo, find}
pub use Rattle.assise_chain.specs.Acceptance.{accepted, records_past, IsTimely}
pub use Rattle.assise_chain.specs.Chains.{IsAscending, behind, chain, first_of_all}
pub use Rattle.assise_chain.specs.Lists.{AllDiffer, IsOneOf}
pub use Rattle.assise_chain.specs.Messages.{count_sent, first_sent, sent, frame_of, last_marks, log_records_between, message_of}
pub use Rattle.assise_chain.specs.Passing.{IsPrefixOf, AllSteps, AllLetGo, AllReach, LogBecomes, StepDoes, ChainIsBegun, Nodes, NoLogChanges, ChainStep}
pub use Rattle.assise_chain.specs.Passing.{with_message}
pub use Rattle.assise_private_log.specs.NumberedLog.{NumberedLog, end, records_from, with_record, without_prefix, IsNumberedLog, is_border}
pub use Rattle.assise_record.specs.LogFrame.{LogFrame}
pub use Rattle.assise_record.specs.LogRecord.{LogRecord}
