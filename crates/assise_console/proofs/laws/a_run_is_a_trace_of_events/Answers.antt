use Rattle.assise_console.proofs.CommandTraces.{command_trace, run_trace, run_told}
use Rattle.assise_console.proofs.laws.a_run_is_a_trace_of_events.Goals as goal

pub returns-clause-command : goal.returns-clause-command
returns-clause-command c = command_trace

pub returns-clause-run : goal.returns-clause-run
returns-clause-run c = run_trace

pub returns-clause-entries : goal.returns-clause-entries
returns-clause-entries c = run_told
