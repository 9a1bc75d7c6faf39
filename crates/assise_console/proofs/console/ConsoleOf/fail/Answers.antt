use Rattle.assise_console.proofs.Common.{fail, machine, console_seen, IsOneAt}
use Rattle.assise_console.proofs.OneCommand.{changes}
use Rattle.assise_console.proofs.console.ConsoleOf.fail.Goals as goal

pub returns : goal.returns
returns g c = changes (IsOneAt fail c.args.node c.fail.result) (console_seen c.args.self.now) (machine c.fail.new.cluster) c.fail.ensures
