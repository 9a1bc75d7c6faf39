use Rattle.assise_console.proofs.Common.{raise, machine, console_seen, IsOneAt}
use Rattle.assise_console.proofs.OneCommand.{changes}
use Rattle.assise_console.proofs.console.ConsoleOf.raise.Goals as goal

pub returns : goal.returns
returns g c = changes (IsOneAt raise c.args.node c.raise.result) (console_seen c.args.self.now) (machine c.raise.new.cluster) c.raise.ensures
