use Rattle.assise_digest.proofs.Common.{◌≡◌, ◌<◌, ◌≤◌, ◌++◌, ◌∙◌, length, min, slice_index_or, take, ap, sym, subst, arith, get_or-map, length-map, all_effects}
use Rattle.assise_digest.proofs.Common.{Lays, ahead_below, all_ahead, no_log, seen_log, seen_logs}
use Rattle.assise_digest.proofs.InodesUnderRecords.{lays_no_more, lays_nothing}
use Rattle.assise_digest.proofs.RebuiltInodes.{all_clients, one_more_client}
use Rattle.assise_digest.proofs.region.Region.all_ahead.Goals as goal

pub loop-place-init : goal.loop-place-init
loop-place-init c =
    let nothing = lays_nothing c.new-ahead.result c.self.inside.area.inodes c.new-ahead.ensures.inodes c.new-ahead.ensures.last in
    record { no_more = lays_no_more c.new-ahead.result c.self.inside.area.inodes _ nothing; lays = nothing }

pub lay-requires-clause-no_more : goal.lay-requires-clause-no_more
lay-requires-clause-no_more c = c.loop-place.invariant.no_more

pub loop-place-preserved : goal.loop-place-preserved
loop-place-preserved c =
    let xs = c.self.inside.logs.items in
    let m = c.self.inside.area.inodes in
    let acked = c.args.acked.now in
    let place = c.loop-place.place in
    let counted = length-map xs seen_log in
    let within : place < length xs = grind (arith, c.loop-place-test.true, c.min-place-end.ensures, c.len.ensures) in
    let within_logs : place < length (seen_logs xs) = omega (arith, within, counted) in
    let within_acked : place < length acked = grind (arith, c.loop-place-test.true, c.min-place-end.ensures) in
    let item : slice_index_or (seen_logs xs) place no_log ≡ seen_log c.index.result.now = get_or-map seen_log xs place c.index.result.now no_log within
    ∙ ap seen_log (sym c.index.ensures) in
    let before = all_ahead (take place (seen_logs xs)) acked in
    record {
      no_more = c.in_ok-lay.ensures.no_more;
      lays = subst (Lays c.lay.new.pending m)
          (ap (λ l. before ++ all_effects (ahead_below l (slice_index_or acked place 0))) (sym item)
          ∙ sym (one_more_client (seen_logs xs) acked place within_logs within_acked))
          (c.in_ok-lay.ensures.lays before c.loop-place.invariant.lays);
    }

pub returns-clause-lays : goal.returns-clause-lays
returns-clause-lays c =
    let xs = c.self.inside.logs.items in
    let acked = c.args.acked.now in
    let counted = length-map xs seen_log in
    let ended : min (length (seen_logs xs)) (length acked) ≤ c.loop-place.place =
    grind (arith, counted, c.loop-place-test.false, c.min-place-end.ensures, c.len.ensures) in
    subst (λ s. Lays c.loop-place.ahead s.inodes (all_ahead s.logs acked)) c.self.view_is
    (subst (Lays c.loop-place.ahead c.self.inside.area.inodes) (all_clients (seen_logs xs) acked c.loop-place.place ended) c.loop-place.invariant.lays)
