use Rattle.assise_machine_failures.proofs.Common.{◌≡◌, ◌+◌, option_copied, ap, sym, ◌∙◌, arith, record_at, kept_at_failure, losses_to, world_of, value_of}
use Rattle.assise_machine_failures.proofs.Cuts.{all_places, lost_here, none_lost, one_lost, place_client, place_kept, place_within, whole_here}
use Rattle.assise_machine_failures.proofs.listing.losses.Goals as goal
use Rattle.assise_machine_failures.proofs.listing.losses.Goals.{in-Some+in_ok-push, in_default}

pub overflow_cast-client : goal.overflow_cast-client
overflow_cast-client g c = omega (arith, c.requires.few, place_within (value_of c.args.state.now) _ _ c.requires.kept _ c.loop-place-test.true)

pub overflow_add-client : goal.overflow_add-client
overflow_add-client g c = omega (arith, c.requires.few, place_within (value_of c.args.state.now) _ _ c.requires.kept _ c.loop-place-test.true)

pub own_log-log-requires-clause-client : goal.own_log-log-requires-clause-client
own_log-log-requires-clause-client g c = place_client _ _ _ c.requires.kept _ c.loop-place-test.true

pub loop-place-preserved : goal.loop-place-preserved
loop-place-preserved g c =
    let s = value_of c.args.state.now in
    let w = world_of s in
    let n = c.args.node in
    let k = c.loop-place.place in
    let client = place_client s n c.args.kept.now c.requires.kept k c.loop-place-test.true in
    let log = c.own_log-log.ensures.log in
    let get : option_copied c.get.result ≡ record_at c.own_log-log.result.now (kept_at_failure w n (k + 1)) =
    c.get.ensures ∙ ap (record_at c.own_log-log.result.now) (place_kept s n c.args.kept.now c.requires.kept k c.loop-place-test.true) in
    let some = c.args.state.now.members.lawful.some_full in
    elim c.match-get.branch [
      | in-Some+in_ok-push b ↦
          let lost =
          lost_here s n (k + 1) c.requires.parts.shape client some c.own_log-log.result.now b.in-Some.lost.now log (sym get ∙ ap option_copied b.in-Some.is) in
          one_lost w n k b.call.result c.loop-place.losses.items c.match-get.losses.items c.loop-place.invariant
          (ap (λ v. v.items) b.losses-is ∙ b.in_ok-push.ensures.items) lost.0 (lost.1 ∙ sym b.call.ensures)
      | in_default b ↦
          let whole =
          whole_here s n (k + 1) c.requires.parts.shape client some c.own_log-log.result.now c.requires.parts.world log
          (sym get ∙ ap option_copied b.in_default.is) in
          none_lost w n k c.loop-place.losses.items c.match-get.losses.items c.loop-place.invariant (ap (λ v. v.items) b.losses-is) whole
    ]

pub returns : goal.returns
unfolding world_of
returns g c = record {
  losses = c.loop-place.invariant ∙ ap (losses_to (world_of (value_of c.args.state.now)) c.args.node)
      (all_places (value_of c.args.state.now) c.args.node c.args.kept.now c.loop-place.place
      c.requires.kept c.loop-place.auto.place-end c.loop-place-test.false);
}
