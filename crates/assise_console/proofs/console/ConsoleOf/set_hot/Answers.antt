use Rattle.assise_console.proofs.Common.{machine, console_seen, SetsHot}
use Rattle.assise_console.proofs.OneCommand.{changes}
use Rattle.assise_console.proofs.console.ConsoleOf.set_hot.Goals as goal

pub returns : goal.returns
returns g c = changes (SetsHot c.args.node c.args.capacity c.set_hot.result) (console_seen c.args.self.now) (machine c.set_hot.new.cluster) c.set_hot.ensures
