use Rattle.assise_chain.proofs.Common.{◌≡◌, ◌-◌, drop, ap, ◌∙◌, arith, end, first_sent, sent}
use Rattle.assise_chain.proofs.RecordPrefixes.{parts_of_frame}
use Rattle.assise_chain.proofs.laws.what_is_sent_from_the_end_is_taken_in.Goals as goal

pub returns-clause-timely : goal.returns-clause-timely
returns-clause-timely c from l f marked epoch client to kept is =
    let parts = parts_of_frame marked epoch client (first_sent from (end l)) (sent from (end l) to) _ f is in
    record { this_epoch = parts.0; no_gap = omega arith }

pub returns-clause-taken : goal.returns-clause-taken
returns-clause-taken c from l f marked epoch client to kept is =
    let parts = parts_of_frame marked epoch client (first_sent from (end l)) (sent from (end l) to) _ f is in
    let none : end l - f.first ≡ 0 = omega arith in
    ap (λ n. drop n f.records) none ∙ parts.2
