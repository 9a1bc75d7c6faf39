use Rattle.assise_area.proofs.Common.{sym, ◌∙◌, is_there}
use Rattle.assise_area.proofs.Shared.Seen.{value_of_cold, value_of_hot}
use Rattle.assise_area.proofs.WrittenValues.{seen_out_of_cold, seen_out_of_hot, sound_out_of_cold, sound_out_of_hot}
use Rattle.assise_area.proofs.area.Area.remove.Goals as goal

pub invariant_of-self : goal.invariant_of-self
invariant_of-self c = sound_out_of_hot c.self.inside.hot c.pop.new.self c.self.inside.cold.entries c.args.inode c.pop.ensures.entries c.see_order.ensures.0
    c.self.invariant

pub invariant_of-self-in-None : goal.invariant_of-self-in-None
invariant_of-self-in-None c =
    sound_out_of_cold c.self.inside.hot c.pop.new.self c.self.inside.cold.entries c.swap_remove.new.self.entries c.args.inode c.in-None.ensures.entries
    (sym c.in-None.ensures.value) c.swap_remove.ensures.updates.0 c.self.invariant

pub returns-in-Some-clause-removed : goal.returns-in-Some-clause-removed
returns-in-Some-clause-removed c =
    sym (value_of_hot c.args.self.now c.self.inside.hot c.self.inside.cold.entries c.args.inode c.in-Some.content c.self.view_is (sym c.in-Some.ensures.value))

pub returns-in-Some-clause-others : goal.returns-in-Some-clause-others
returns-in-Some-clause-others c =
    seen_out_of_hot c.args.self.now c.self.inside.hot c.pop.new.self c.self.inside.cold.entries c.args.inode c.self.view_is c.in-Some.ensures.entries
    c.see_order.ensures.0 c.self.invariant.disjoint
    (is_there c.in-Some.content _ c.in-Some.ensures.value)

pub returns-in-None-clause-removed : goal.returns-in-None-clause-removed
returns-in-None-clause-removed c =
    c.swap_remove.ensures.value ∙ sym
    (value_of_cold c.args.self.now c.self.inside.hot c.self.inside.cold.entries c.args.inode c.self.view_is (sym c.in-None.ensures.value))

pub returns-in-None-clause-others : goal.returns-in-None-clause-others
returns-in-None-clause-others c =
    seen_out_of_cold c.args.self.now c.self.inside.hot c.pop.new.self c.self.inside.cold.entries c.swap_remove.new.self.entries c.args.inode c.self.view_is
    c.in-None.ensures.entries (sym c.in-None.ensures.value) c.swap_remove.ensures.updates.0
