use Rattle.assise_machine_state.proofs.Common.{◌≡◌, ◌<◌, ◌-◌, ◌+◌, ◌∙◌, get_or, length, ap, subst, arith, IsBegun, log_of, no_log, copied}
use Rattle.assise_machine_state.proofs.Shared.RecordsTaken.{one_copied, one_sound}
use Rattle.assise_machine_state.proofs.nodes.copies_of.Goals as goal

pub loop-place-preserved : goal.loop-place-preserved
loop-place-preserved c =
    let xs = c.loop-place.copies.items in
    let ls = c.args.region.now.logs in
    let k = c.loop-place.place in
    let low : k < length ls = omega (arith, c.loop-place-test.true, c.clients-place-end.ensures) in
    let back : k + 1 - 1 ≡ k = omega arith in
    let here : log_of c.args.region.now (k + 1) ≡ get_or ls k no_log = ap (λ j. get_or ls j no_log) back in
    let same_log : c.in_ok-log.log ≡ (get_or ls k no_log).log = c.in_ok-log.ensures.equal ∙ c.log.ensures.log ∙ ap (λ l. l.log) here in
    let same_digested : c.digested-digested.result ≡ (get_or ls k no_log).digested = c.digested-digested.ensures.value ∙ ap (λ l. l.digested) here in
    let begun : IsBegun (copied (c.in_ok-log.log, c.digested-digested.result)) = rw (same_log, same_digested)
    (subst (λ l. IsBegun (copied (l.log, l.digested))) here
    (record { from_first = c.digested-digested.ensures.begun.from_first; to_end = c.digested-digested.ensures.begun.to_end })) in
    (search (one_copied, one_sound, arith) parts 3)
