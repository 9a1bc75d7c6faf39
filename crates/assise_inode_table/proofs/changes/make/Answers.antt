use Rattle.assise_inode_table.proofs.Common.{◌≡◌, ◌||◌, ◌==◌, subst, ℕ, List, Option, set, ap, ◌∙◌, Content, IsPlace, found, is_among, Change}
use Rattle.std.specs.FinMap as map
use Rattle.assise_inode_table.proofs.FewChanges.{among_set, made, made_distinct}
use Rattle.assise_inode_table.proofs.changes.make.Goals as goal

pub returns-clause-distinct : goal.returns-clause-distinct
returns-clause-distinct g c =
    made_distinct c.put_in.new.changes.items c.in_ok-place.place c.touches.result c.index_mut-change.result.now c.change_value.new.value
    c.in_ok-place.ensures.distinct c.in_ok-place.ensures.place c.index_mut-change.ensures.value

pub returns-clause-values : goal.returns-clause-values
returns-clause-values g c =
    let base : ℕ → Option Content = λ i. map.get (g.I.Inodes.contents c.args.base.now) i in
    made c.put_in.new.changes.items c.in_ok-place.place c.index_mut-change.result.now c.args.effect.now base
    (λ i. found c.args.changes.now.items i (base i)) c.change_value.new.value
    c.in_ok-place.ensures.distinct (subst (IsPlace c.put_in.new.changes.items c.in_ok-place.place) c.touches.ensures c.in_ok-place.ensures.place)
    c.index_mut-change.ensures.value c.in_ok-change_value.ensures.ok c.in_ok-place.ensures.values

pub returns-clause-among : goal.returns-clause-among
returns-clause-among g c i =
    let cs : List Change = c.put_in.new.changes.items in
    let p : ℕ = c.in_ok-place.place in
    let here : Change = c.index_mut-change.result.now in
    let at : here.inode ≡ c.touches.result = ap (λ x. x.inode) c.index_mut-change.ensures.value ∙ c.in_ok-place.ensures.place.is here in
    ap (λ k. is_among (set cs p (record { inode = k; value = c.change_value.new.value })) i) at
    ∙ among_set cs p c.touches.result i here c.change_value.new.value c.in_ok-place.ensures.place.within (c.in_ok-place.ensures.place.is here)
    ∙ c.in_ok-place.ensures.among i ∙ ap (λ k. (k == i) || is_among c.args.changes.now.items i) c.touches.ensures
