-- What is seen of a console in code.
use Rattle.std.specs.Prelude.{length, map}
use Rattle.assise_link.specs.TestLinks.{kind_of_link}
use Rattle.assise_machine.specs.Clusters.{machine}
use Rattle.assise_console.specs.declared.console.ConsoleOf.{ConsoleOf}
use Rattle.assise_console.specs.declared.stock.Stock.{Stock}
use Rattle.assise_console.specs.State.{ConsoleState, Stocks}

abbrev pub stocks : {C : Type 0} → Stock C → Stocks
stocks s = record { least = length s.least.items; whole = length s.whole.items; eights = length s.eights.items }

abbrev pub console_seen : {C : Type 0} → ConsoleOf C → ConsoleState
console_seen c = record { machine = machine c.cluster; stock = stocks c.stock; turns = c.turns; manual = c.manual; links = map kind_of_link c.links }
