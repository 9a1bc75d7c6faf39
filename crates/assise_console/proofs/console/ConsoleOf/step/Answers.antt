use Rattle.assise_console.proofs.Common.{[], refl, release_ready, machine, console_seen, IsOne}
use Rattle.assise_console.proofs.OneCommand.{changes}
use Rattle.assise_console.proofs.console.ConsoleOf.step.Goals as goal

pub returns-in-Carry-clause-does : goal.returns-in-Carry-clause-does
returns-in-Carry-clause-does g c = rw c.in-Carry.is c.carry.ensures

pub returns-in-Release-clause-does : goal.returns-in-Release-clause-does
returns-in-Release-clause-does g c =
    rw c.in-Release.is (changes (IsOne release_ready c.release.result) (console_seen c.args.self.now) (machine c.release.new.cluster) c.release.ensures)

pub returns-in-Tree-clause-does : goal.returns-in-Tree-clause-does
returns-in-Tree-clause-does g c = rw c.in-Tree.is ([], (c.tree.ensures, (refl, refl)))

pub returns-in-Check-clause-does : goal.returns-in-Check-clause-does
returns-in-Check-clause-does g c = rw c.in-Check.is ([], (c.check.ensures, (refl, refl)))
