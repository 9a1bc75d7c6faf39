use Rattle.assise_rounds.proofs.Shared.Traces.{trace_keeps, trace_legal, trace_told}
use Rattle.assise_rounds.proofs.laws.a_trace_keeps_the_history_legal.Goals as goal

pub returns-clause-keeps : goal.returns-clause-keeps
returns-clause-keeps c = trace_keeps

pub returns-clause-legal : goal.returns-clause-legal
returns-clause-legal c = trace_legal

pub returns-clause-entries : goal.returns-clause-entries
returns-clause-entries c = trace_told
