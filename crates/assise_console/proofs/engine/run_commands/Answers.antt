use Rattle.assise_console.proofs.Common.{console_seen, stocks}
use Rattle.assise_console.proofs.PrintedLines.{on_ok}
use Rattle.assise_console.proofs.ScriptRuns.{ran_all}
use Rattle.assise_console.proofs.engine.run_commands.Goals as goal

pub returns-in_ok-console-in-Some-clause-done : goal.returns-in_ok-console-in-Some-clause-done
returns-in_ok-console-in-Some-clause-done g c =
    let item = c.in-Some.ensures.item in
    on_ok c.run.result _ _ c.run.ensures.done (λ runs.
    ran_all (stocks c.args.stock) c.args.turns c.args.commands.now c.in-Some.first.now (console_seen c.in_ok-console-in-Some.console) _ _
    item.0 item.1 c.requires.cluster_first c.in_ok-console-in-Some.ensures.begun runs)
