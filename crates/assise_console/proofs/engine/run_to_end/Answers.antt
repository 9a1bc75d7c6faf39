use Rattle.assise_console.proofs.Common.{console_seen}
use Rattle.assise_console.proofs.PrintedLines.{appends-keeps, on_ok}
use Rattle.assise_console.proofs.engine.run_to_end.Goals as goal

pub returns-clause-done : goal.returns-clause-done
returns-clause-done g c =
    on_ok c.flush.result _ _ c.flush.ensures.done (λ keeps.
    (let run = c.in_ok-run_lines.ensures.done in
    (console_seen c.run_lines.new.console, (run.0, (run.1.0, (run.1.1.0, appends-keeps _ _ _ run.1.0 run.1.1.1 keeps))))))
