use Rattle.assise_console.proofs.Common.{digest, machine, console_seen, IsOne}
use Rattle.assise_console.proofs.OneCommand.{changes}
use Rattle.assise_console.proofs.console.ConsoleOf.digest.Goals as goal

pub returns : goal.returns
returns g c = changes (IsOne (digest c.args.node) c.digest.result) (console_seen c.args.self.now) (machine c.digest.new.cluster) c.digest.ensures
