use Rattle.assise_threads.proofs.Common.{sym, subst, last, seen, IsLed, sights, machine_seen, AreMet}
use Rattle.assise_threads.proofs.LedTakes.{cluster_works, works_seen}
use Rattle.assise_threads.proofs.Meetings.{is_known, met_client}
use Rattle.assise_threads.proofs.meeting.+meet_all.Goals as goal

pub returns-clause-met : goal.returns-clause-met
returns-clause-met g t c =
    let first = c.meet-pass.ensures in
    let second = c.meet-pass-2.ensures in
    let state = first.known in
    let now = c.meet-pass.result.0 in
    let worked = works_seen (last c.args.pass) (last now) state.0 c.requires.known.0 state.2
    (subst (λ z. IsLed cluster_works (last c.args.pass) z) state.2 (first.first_worked c.requires.alone)) in
    subst (λ z. AreMet (machine_seen (last c.args.pass)) (sights z) (seen c.meet-pass-2.result.0)) (sym c.in-Some.ensures.items)
    (met_client c.in-Some.client c.args.pass c.into_pass.result now c.meet-pass.result.1 c.meet_all-pass.result c.meet-pass-2.result.0 c.meet-pass-2.result.1
    (sights c.next.new.self.rest.items)
    c.into_pass.ensures.pass c.requires.known (is_known now state.0 state.1 state.2) worked first.one first.first.0 (first.first_alone c.requires.alone)
    first.second.0 first.second.1 first.calls_of_second c.meet_all-pass.ensures.met second.first.0 second.one second.second.1 second.calls_of_second)
