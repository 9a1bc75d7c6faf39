use Rattle.assise_files.proofs.Common.{FaithfulAt, call_trace}
use Rattle.assise_files.proofs.Shared.TriesTrace.{redo_trace}
use Rattle.assise_files.proofs.laws.a_call_is_a_trace_of_events.Goals as goal

pub returns-clause-call : goal.returns-clause-call
returns-clause-call c = λ links. call_trace (FaithfulAt links)

pub returns-clause-redo : goal.returns-clause-redo
returns-clause-redo c = λ links. redo_trace (FaithfulAt links)
