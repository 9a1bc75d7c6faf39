use Rattle.assise_machine.proofs.Common.{membership, value_of}
use Rattle.assise_machine.proofs.RaisedNode.{Raises, raises}
use Rattle.assise_machine.proofs.raising.raise.Given as given
use Rattle.assise_machine.proofs.raising.raise.Goals as goal

raised_now : (g : given.Over) (c : goal.After-raise g) →
    Raises (value_of c.args.sound.now.state) c.args.node c.raise.result (record (value_of c.args.sound.now.state) { members = membership c.raise.new.self })
raised_now g c =
    raises (value_of c.args.sound.now.state) c.args.node c.args.sound.now.invariant.holds c.args.sound.now.invariant.shape c.args.sound.now.invariant.noted
    c.raise.result (membership c.raise.new.self) c.raise.ensures.fault c.raise.ensures.ok c.raise.ensures.raised c.raise.ensures.err

pub invariant_of-sound : goal.invariant_of-sound
invariant_of-sound g c = (let raised = raised_now g c in record { invariant = record { holds = raised.holds; shape = raised.shape; noted = raised.noted } })

pub returns-clause-happens : goal.returns-clause-happens
returns-clause-happens g c = (raised_now g c.before).happens
