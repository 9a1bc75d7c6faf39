use Rattle.assise_console.proofs.Common.{refill, machine, console_seen, IsOneAt}
use Rattle.assise_console.proofs.OneCommand.{changes}
use Rattle.assise_console.proofs.console.ConsoleOf.refill.Goals as goal

pub returns : goal.returns
returns g c = changes (IsOneAt refill c.args.node c.refill.result) (console_seen c.args.self.now) (machine c.refill.new.cluster) c.refill.ensures
