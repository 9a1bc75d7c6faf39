use Rattle.assise_console.proofs.Common.{crash, machine, console_seen, IsOneAt}
use Rattle.assise_console.proofs.OneCommand.{changes}
use Rattle.assise_console.proofs.console.ConsoleOf.crash.Goals as goal

pub returns : goal.returns
returns g c = changes (IsOneAt crash c.args.client c.crash.result) (console_seen c.args.self.now) (machine c.crash.new.cluster) c.crash.ensures
