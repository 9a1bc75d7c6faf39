use Rattle.assise_inode_table.proofs.Common.{◌∙◌, ap, sym, subst, Some, nat_eq, touched_by, AsksForMemory}
use Rattle.std.specs.FinMap as map
use Rattle.std.proofs.lemmas.Map.Steps.{set_value_same}
use Rattle.assise_inode_table.proofs.Shared.TableView.{change_none, change_some, value_at, is_there, on_err}
use Rattle.assise_inode_table.proofs.table.InodeTable.change.Goals as goal

pub returns-in_default-clause-ok : goal.returns-in_default-clause-ok
returns-in_default-clause-ok c =
    ap (λ n. map.from_entries n.entries) c.get_mut.follows.holds-at-none
    ∙ change_none c.args.self.now c.self.inside.inodes.entries c.args.effect.now c.touches.result c.self.view_is c.touches.ensures c.in_default.ensures.value

pub returns-in_err-change-clause-err : goal.returns-in_err-change-clause-err
returns-in_err-change-clause-err c =
    let kept = sym c.in-Some.ensures.value ∙ ap Some (sym c.in_err-change.ensures.err) in
    let same = set_value_same (nat_eq c.touches.result) c.self.inside.inodes.entries c.change.new.self kept in
    on_err c.from_residual.result _ (ap map.from_entries ((c.get_mut.follows.holds c.change.new.self).0 ∙ same) ∙ c.self.view_is)

pub returns-clause-ok : goal.returns-clause-ok
returns-clause-ok c =
    let held = (c.get_mut.follows.holds c.change.new.self).3 (is_there c.in-Some.inode.now _ c.in-Some.ensures.value) in
    change_some c.args.self.now c.self.inside.inodes.entries (c.get_mut.follows.lender c.change.new.self).entries c.args.effect.now c.touches.result
    c.in-Some.inode.now c.change.new.self c.self.view_is c.touches.ensures c.in-Some.ensures.value c.in_ok-change.ensures.ok held.0

pub returns-in_err-change-clause-asked : goal.returns-in_err-change-clause-asked
returns-in_err-change-clause-asked c =
    let there = value_at c.args.self.now c.self.inside.inodes.entries (touched_by c.args.effect.now) c.touches.result (Some c.in-Some.inode.now) c.self.view_is
    c.touches.ensures c.in-Some.ensures.value in
    on_err c.from_residual.result _ (subst (AsksForMemory c.args.effect.now) (sym there) c.in_err-change.ensures.asked)
