use Rattle.assise_machine_calls.specs.Answers.{turn_answer}
use Rattle.assise_console.proofs.Common.{machine, console_seen}
use Rattle.assise_console.proofs.SmallNumbers.{no_client_so_large}
use Rattle.assise_console.proofs.OneCommand.{calls_none, calls_often, calls_once}
use Rattle.assise_console.proofs.console.ConsoleOf.call.Goals as goal

pub returns-in_default : goal.returns-in_default
returns-in_default g c =
    calls_none (console_seen c.args.self.now) c.args.client c.args.op.now
    (no_client_so_large c.args.self.now.cluster (c.number_of.ensures.none c.in_default.is))

pub returns-then-self : goal.returns-then-self
returns-then-self g c =
    calls_once (console_seen c.args.self.now) c.args.client c.in-Some.client c.args.op.now c.turned.result (turn_answer c.try_call.result)
    (machine c.try_call.new.self)
    c.in-Some.ensures.some c.if-self.true c.turned.ensures c.try_call.ensures.happens

pub returns-else-self : goal.returns-else-self
returns-else-self g c =
    calls_often (console_seen c.args.self.now) c.args.client c.in-Some.client c.args.op.now c.answered.result c.try_often.result
    (machine c.try_often.new.cluster) _
    c.in-Some.ensures.some c.if-self.false c.answered.ensures c.try_often.ensures.stay c.try_often.ensures.tries
