use Rattle.assise_digest.proofs.Common.{◌≡◌, ◌-◌, Some, length, option_map, ◌∙◌, ap, subst, sym, arith, length-drop, IfSome, records_from, all_effects}
use Rattle.assise_digest.proofs.Common.{HasAllNumbers, noted_from}
use Rattle.assise_digest.proofs.received.Received.note_from.Goals as goal

pub note_all-requires-clause-numbers_fit : goal.note_all-requires-clause-numbers_fit
note_all-requires-clause-numbers_fit c =
    let l = c.args.self.now.log in
    let long : length c.since.result ≡ length l.records - (c.args.from - l.first) = ap length c.since.ensures.rest
    ∙ length-drop (c.args.from - l.first) l.records in
    omega (arith, long, c.since.ensures.lawful.numbers)

pub note_all-requires-clause-there : goal.note_all-requires-clause-there
note_all-requires-clause-there c =
    subst (λ rs. HasAllNumbers c.in-Some.pending.last (all_effects rs)) (sym c.since.ensures.rest)
    (subst (λ o. IfSome o (λ p. HasAllNumbers p.last (all_effects (records_from c.args.self.now.log c.args.from)))) c.in-Some.is c.requires.there)

pub returns-in-Some-clause-pending : goal.returns-in-Some-clause-pending
returns-in-Some-clause-pending c =
    ap Some (c.note_all.ensures ∙ ap (noted_from c.in-Some.pending c.args.from) c.since.ensures.rest)
    ∙ sym (ap (option_map (λ p. noted_from p c.args.from (records_from c.args.self.now.log c.args.from))) c.in-Some.is)
