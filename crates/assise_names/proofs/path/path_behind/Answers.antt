use Rattle.assise_names.proofs.Common.{[], ◌∷◌, ap, subst, sym, ◌∙◌, GivesPath}
use Rattle.assise_names.proofs.FewNames.{of_pieces}
use Rattle.assise_names.proofs.PathLemmas.{cut, uncut}
use Rattle.assise_names.proofs.path.path_behind.Goals as goal

pub returns-in_default-clause-first_fault : goal.returns-in_default-clause-first_fault
returns-in_default-clause-first_fault c =
    let text = c.args.text.now in
    let none = uncut text c.split_once.result c.split_once.ensures.cases c.in_default.is in
    subst (GivesPath c.path_of_one.result) (sym (of_pieces text _ c.is_empty.ensures c.if-is_empty.false (text ∷ []) none)) c.path_of_one.ensures.first_fault

pub returns-in_default-split_once-clause-first_fault : goal.returns-in_default-split_once-clause-first_fault
returns-in_default-split_once-clause-first_fault c =
    let text = c.args.text.now in
    let first = c.in-Some.first.now in
    let rest = c.in-Some.rest.now in
    let one = cut text c.split_once.result _ c.split_once.ensures.cases c.in-Some.is in
    let none = uncut rest c.split_once-2.result c.split_once-2.ensures.cases c.in_default-split_once.is in
    subst (GivesPath c.path_of_two.result)
    (sym (of_pieces text _ c.is_empty.ensures c.if-is_empty.false (first ∷ rest ∷ []) (one ∙ ap (λ ps. first ∷ ps) none))) c.path_of_two.ensures.first_fault

pub returns-in_default-split_once-2-clause-first_fault : goal.returns-in_default-split_once-2-clause-first_fault
returns-in_default-split_once-2-clause-first_fault c =
    let text = c.args.text.now in
    let first = c.in-Some.first.now in
    let second = c.in-Some-split_once.second.now in
    let third = c.in-Some-split_once.last.now in
    let one = cut text c.split_once.result _ c.split_once.ensures.cases c.in-Some.is in
    let two = cut c.in-Some.rest.now c.split_once-2.result _ c.split_once-2.ensures.cases c.in-Some-split_once.is in
    let none = uncut third c.split_once-3.result c.split_once-3.ensures.cases c.in_default-split_once-2.is in
    subst (GivesPath c.path_of_three.result)
    (sym (of_pieces text _ c.is_empty.ensures c.if-is_empty.false (first ∷ second ∷ third ∷ [])
    (one ∙ ap (λ ps. first ∷ ps) (two ∙ ap (λ ps. second ∷ ps) none)))) c.path_of_three.ensures.first_fault

pub returns-clause-first_fault : goal.returns-clause-first_fault
returns-clause-first_fault c =
    let text = c.args.text.now in
    let first = c.in-Some.first.now in
    let second = c.in-Some-split_once.second.now in
    let one = cut text c.split_once.result _ c.split_once.ensures.cases c.in-Some.is in
    let two = cut c.in-Some.rest.now c.split_once-2.result _ c.split_once-2.ensures.cases c.in-Some-split_once.is in
    let three = cut c.in-Some-split_once.last.now c.split_once-3.result _ c.split_once-3.ensures.cases c.in-Some-split_once-2.is in
    subst (GivesPath c.path_of_many.result)
    (sym (of_pieces text _ c.is_empty.ensures c.if-is_empty.false _ (one ∙ ap (λ ps. first ∷ ps) (two ∙ ap (λ ps. second ∷ ps) three))))
    c.path_of_many.ensures.first_fault
