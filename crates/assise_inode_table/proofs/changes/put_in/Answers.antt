use Rattle.assise_inode_table.proofs.Common.{List, None, ap, sym, ◌∙◌, subst, AreDistinctChanges, IsPlace, Lacks, found, is_among, Change}
use Rattle.std.specs.FinMap as map
use Rattle.assise_inode_table.proofs.FewChanges.{among_place, among_push, distinct_push, found_push}
use Rattle.assise_inode_table.proofs.changes.put_in.Goals as goal

pub returns-clause-distinct : goal.returns-clause-distinct
returns-clause-distinct g c =
    let new : Change = record { inode = c.args.inode; value = c.in_ok-value.value } in
    subst AreDistinctChanges (sym c.in_ok-push.ensures.items)
    (distinct_push c.args.changes.now.items new c.requires.distinct (subst (λ xs. Lacks xs c.args.inode) c.deref.ensures.value c.in_default.ensures))

pub returns-clause-values : goal.returns-clause-values
returns-clause-values g c =
    let new : Change = record { inode = c.args.inode; value = c.in_ok-value.value } in
    λ i. ap (λ xs. found xs i (map.get (g.I.Inodes.contents c.args.base.now) i)) c.in_ok-push.ensures.items
    ∙ found_push c.args.changes.now.items new i (map.get (g.I.Inodes.contents c.args.base.now) i)
    (λ same. c.in_ok-value.ensures.equal ∙ c.get.ensures ∙ ap (map.get (g.I.Inodes.contents c.args.base.now)) same)

pub returns-clause-among : goal.returns-clause-among
returns-clause-among g c =
    let new : Change = record { inode = c.args.inode; value = c.in_ok-value.value } in
    λ i. ap (λ xs. is_among xs i) c.in_ok-push.ensures.items ∙ among_push c.args.changes.now.items new i

pub returns-in-Some-clause-among : goal.returns-in-Some-clause-among
returns-in-Some-clause-among g c =
    let cs : List Change = c.args.changes.now.items in
    let none : Change = record { inode = 0; value = None } in
    let place : IsPlace cs c.in-Some.place c.args.inode = subst (λ xs. IsPlace xs c.in-Some.place c.args.inode) c.deref.ensures.value c.in-Some.ensures in
    λ i. among_place cs c.in-Some.place c.args.inode i none place.within (place.is none)
