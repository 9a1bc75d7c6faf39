use Rattle.assise_machine_failures.proofs.Common.{◌+◌, ◌-◌, ◌++◌, take, ap, ◌∙◌, arith, all_effects, touched, records_from, world_of, value_of, kept_inodes}
use Rattle.assise_machine_failures.proofs.Cuts.{all_places, first_kept, one_touched, place_client, place_kept, place_within, touched_here}
use Rattle.assise_machine_failures.proofs.listing.touched_inodes.Goals as goal

pub overflow_cast-place : goal.overflow_cast-place
overflow_cast-place g c = omega (arith, c.requires.few, place_within (value_of c.args.state.now) _ _ c.requires.kept _ c.loop-place-test.true)

pub overflow_add-place : goal.overflow_add-place
overflow_add-place g c = omega (arith, c.requires.few, place_within (value_of c.args.state.now) _ _ c.requires.kept _ c.loop-place-test.true)

pub own_log-log-requires-clause-client : goal.own_log-log-requires-clause-client
own_log-log-requires-clause-client g c = place_client _ _ _ c.requires.kept _ c.loop-place-test.true

pub overflow_sub-end : goal.overflow_sub-end
overflow_sub-end g c =
    let s = value_of c.args.state.now in
    let k = c.loop-place.place in
    let client = place_client s c.args.node c.args.kept.now c.requires.kept k c.loop-place-test.true in
    let log = c.own_log-log.ensures.log in
    let low = first_kept s c.args.node (k + 1) c.requires.parts.shape client c.args.state.now.members.lawful.some_full c.requires.parts.world in
    omega (arith, low, c.first-first.ensures, ap (λ l. l.first) log, place_kept s c.args.node c.args.kept.now c.requires.kept k c.loop-place-test.true)

pub loop-place-preserved : goal.loop-place-preserved
loop-place-preserved g c =
    let s = value_of c.args.state.now in
    let n = c.args.node in
    let k = c.loop-place.place in
    let client = place_client s n c.args.kept.now c.requires.kept k c.loop-place-test.true in
    let log = c.own_log-log.ensures.log in
    let own = c.own_log-log.result.now in
    let kept = place_kept s n c.args.kept.now c.requires.kept k c.loop-place-test.true in
    let first = c.first-first.ensures in
    let added = (λ i. touched (all_effects (take (kept i - first i) (records_from own (first i))))) ∙ touched_here s n (k + 1) c.requires.parts.shape client
    c.args.state.now.members.lawful.some_full own log in
    one_touched (world_of s) n k c.loop-place.inodes.items c.push_touched_from.new.inodes.items c.loop-place.invariant
    (c.in_ok-push_touched_from.ensures.added ∙ ap (λ is. c.loop-place.inodes.items ++ is) added)

pub returns : goal.returns
returns g c = record {
  inodes = c.loop-place.invariant ∙ ap (kept_inodes (world_of (value_of c.args.state.now)) c.args.node)
      (all_places (value_of c.args.state.now) c.args.node c.args.kept.now c.loop-place.place
      c.requires.kept c.loop-place.auto.place-end c.loop-place-test.false);
}
