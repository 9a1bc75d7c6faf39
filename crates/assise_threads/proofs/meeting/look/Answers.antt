use Rattle.assise_threads.proofs.Common.{◌∙◌, [], ap, refl, sym, subst, Extends, openings_of, last, machine, machine_seen, AreMet}
use Rattle.assise_threads.proofs.LedTakes.{leads_itself, not_never, seen_works}
use Rattle.assise_threads.proofs.Meetings.{met_none}
use Rattle.assise_threads.proofs.Nobodys.{is_legal, may_give_same}
use Rattle.assise_threads.proofs.meeting.look.Goals as goal

pub give-requires-clause-grows : goal.give-requires-clause-grows
give-requires-clause-grows g c = may_give_same _ _ _ _ c.take-held.ensures.taken

pub returns-clause-met : goal.returns-clause-met
returns-clause-met g c =
    let old = c.args.pass in
    let m = machine c.take-held.result in
    let known = c.requires.known in
    subst (AreMet (machine_seen (last old)) []) (sym c.give.ensures.seen)
    (met_none (machine_seen (last old)) m (seen_works (last old) c.take-held.result known.0 (c.take-held.ensures.worked c.requires.alone))
    (subst (λ h. Extends m.history h) known.1 c.take-held.ensures.extends) (is_legal c.take-held.result m.history refl)
    (c.take-held.ensures.alone c.requires.alone ∙ ap openings_of known.1))

pub give-requires-clause-works : goal.give-requires-clause-works
give-requires-clause-works g c = λ never. absurd (not_never _ (c.take-held.ensures.right ∙ c.requires.alone) never)

pub give-requires-clause-leads : goal.give-requires-clause-leads
give-requires-clause-leads g c = leads_itself _ _ _ c.take-held.ensures.state refl
