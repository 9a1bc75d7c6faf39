use Rattle.assise_console.proofs.Common.{join, machine, console_seen, IsOneAt}
use Rattle.assise_console.proofs.OneCommand.{changes}
use Rattle.assise_console.proofs.console.ConsoleOf.join.Goals as goal

pub returns : goal.returns
returns g c = changes (IsOneAt join c.args.node c.join.result) (console_seen c.args.self.now) (machine c.join.new.cluster) c.join.ensures
