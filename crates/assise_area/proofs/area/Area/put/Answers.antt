use Rattle.assise_area.proofs.Common.{Some, sym, ap, ◌∙◌, on_err, is_there, with_inodes}
use Rattle.std.specs.FinMap as map
use Rattle.assise_area.proofs.Shared.Seen.{value_of_cold, value_of_hot}
use Rattle.assise_area.proofs.WrittenValues.{seen_cold, seen_set, sound_cold, sound_set}
use Rattle.assise_area.proofs.area.Area.put.Goals as goal

pub returns-in_err-insert-clause-asked : goal.returns-in_err-insert-clause-asked
returns-in_err-insert-clause-asked c =
    on_err c.from_residual.result _
    (value_of_cold c.args.self.now c.self.inside.hot c.self.inside.cold.entries c.args.inode c.self.view_is (sym c.in_default.ensures.value)
    ∙ c.in_err-insert.ensures.absent)

pub invariant_of-self-in_default : goal.invariant_of-self-in_default
invariant_of-self-in_default c =
    sound_cold c.self.inside.hot c.self.inside.cold.entries c.insert.new.self.entries c.args.inode (Some c.args.content) (sym c.in_default.ensures.value)
    c.in_ok-insert.ensures.updates.0 c.self.invariant

pub returns-in_default-clause-ok : goal.returns-in_default-clause-ok
returns-in_default-clause-ok c =
    seen_cold c.args.self.now c.self.inside.hot c.self.inside.cold.entries c.insert.new.self.entries c.args.inode (Some c.args.content) c.self.view_is
    (sym c.in_default.ensures.value) c.in_ok-insert.ensures.updates.0

pub returns-in_default-clause-replaced : goal.returns-in_default-clause-replaced
returns-in_default-clause-replaced c =
    c.in_ok-insert.ensures.old ∙ sym
    (value_of_cold c.args.self.now c.self.inside.hot c.self.inside.cold.entries c.args.inode c.self.view_is (sym c.in_default.ensures.value))

pub invariant_of-self-2 : goal.invariant_of-self-2
invariant_of-self-2 c = sound_set c.self.inside.hot c.self.inside.cold.entries c.args.inode c.replace.new.dest
    (is_there c.in-Some.held.now _ c.in-Some.ensures.value) c.self.invariant

pub returns-clause-ok : goal.returns-clause-ok
returns-clause-ok c =
    seen_set c.args.self.now c.self.inside.hot c.self.inside.cold.entries c.args.inode c.replace.new.dest c.self.view_is
    (is_there c.in-Some.held.now _ c.in-Some.ensures.value)
    ∙ ap (λ v. with_inodes c.args.self.now (map.insert c.args.self.now.inodes c.args.inode v)) c.replace.ensures.after

pub returns-clause-replaced : goal.returns-clause-replaced
returns-clause-replaced c =
    ap Some c.replace.ensures.value
    ∙ sym (value_of_hot c.args.self.now c.self.inside.hot c.self.inside.cold.entries c.args.inode c.in-Some.held.now c.self.view_is
    (sym c.in-Some.ensures.value))
