use Rattle.assise_threads.proofs.Common.{sym}
use Rattle.assise_threads.proofs.RunOn.{nothing_run}
use Rattle.assise_threads.proofs.engine.run_commands.Goals as goal

pub returns-in_default-clause-done : goal.returns-in_default-clause-done
returns-in_default-clause-done g c = nothing_run c.args.turns c.args.commands.now _ (sym c.in_default.ensures.value)
