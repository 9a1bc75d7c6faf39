use Rattle.assise_console.proofs.Common.{machine, console_seen}
use Rattle.assise_console.proofs.SmallNumbers.{no_node_so_large}
use Rattle.assise_console.proofs.OneCommand.{begins_return, returns_none, returns_whole}
use Rattle.assise_console.proofs.console.ConsoleOf.back.Goals as goal

pub returns-then-self : goal.returns-then-self
returns-then-self g c = begins_return (console_seen c.args.self.now) c.args.node c.begin_return.result (machine c.begin_return.new.cluster) c.if-self.true
    c.begin_return.ensures

pub returns-in_default : goal.returns-in_default
returns-in_default g c =
    returns_none (console_seen c.args.self.now) c.args.node c.if-self.false
    (no_node_so_large c.args.self.now.cluster (c.number_of.ensures.none c.in_default.is))

pub returns : goal.returns
returns g c =
    returns_whole (console_seen c.args.self.now) c.args.node c.in-Some.node c.returned.result c.return_node.result (machine c.return_node.new.cluster)
    c.in-Some.ensures.some c.if-self.false c.returned.ensures c.return_node.ensures
