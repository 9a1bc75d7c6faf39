use Rattle.assise_area.proofs.Common.{◌∙◌, sym}
use Rattle.assise_area.proofs.Shared.Seen.{value_of_cold, value_of_hot}
use Rattle.assise_area.proofs.area.Area.peek.Goals as goal

pub returns-in-Some : goal.returns-in-Some
returns-in-Some c = sym (value_of_hot c.args.self.now c.self.inside.hot c.self.inside.cold.entries c.args.inode c.in-Some.held.now c.self.view_is
    (sym c.in-Some.ensures))

pub returns-in-None : goal.returns-in-None
returns-in-None c = c.get.ensures.value
    ∙ sym (value_of_cold c.args.self.now c.self.inside.hot c.self.inside.cold.entries c.args.inode c.self.view_is (sym c.in-None.ensures))
