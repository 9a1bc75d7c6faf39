use Rattle.assise_machine_calls.proofs.Common.{◌-◌, ◌<◌, sym, subst, ◌∙◌, arith, levels_of, value_of}
use Rattle.assise_machine_calls.proofs.RipeReleases.{answer_known, gone_now, leases_now, noted_now, ripe_cuts, room_now, shape_now}
use Rattle.assise_machine_calls.proofs.release.+release_before.Goals as goal

pub is_ripe-requires-clause-client : goal.is_ripe-requires-clause-client
is_ripe-requires-clause-client g t c =
    answer_known (value_of c.args.state.now) c.args.place c.index-answer.result.now (omega (arith, c.if-place-eq0.false)) c.requires.place
    c.index-answer.ensures c.requires.noted

pub release_before-requires-2 : goal.release_before-requires-2
release_before-requires-2 g t c =
    let s = value_of c.args.state.now in
    let a = c.index-answer.result.now in
    let some : 0 < c.args.place = omega (arith, c.if-place-eq0.false) in
    let ripe = sym c.is_ripe.ensures ∙ c.if-not-is_ripe.false in
    let levels = levels_of c.release.new.self in
    let cuts = c.remove.new.self.items in
    λ κs sub. (
      subst (λ k. c.args.place - 1 < k) c.decreases (omega (arith, some)),
      (
        sub,
        (
          room_now s c.args.place a some c.requires.place c.index-answer.ensures c.requires.noted c.requires.leases ripe levels c.release.ensures.released cuts
              c.remove.ensures.items,
          (
            leases_now s c.args.place a some c.requires.place c.index-answer.ensures c.requires.noted c.requires.leases ripe levels c.release.ensures.released
                cuts c.remove.ensures.items,
            (
              shape_now s c.args.place a some c.requires.place c.index-answer.ensures c.requires.noted c.requires.leases ripe levels c.release.ensures.released
                  cuts c.remove.ensures.items c.requires.shape,
              noted_now s c.args.place a some c.requires.place c.index-answer.ensures c.requires.noted c.requires.leases ripe levels c.release.ensures.released
                  cuts c.remove.ensures.items,
            ),
          ),
        ),
      ),
    )

pub returns-clause-goes : goal.returns-clause-goes
returns-clause-goes g t c =
    let s = value_of c.args.state.now in
    let some : 0 < c.args.place = omega (arith, c.if-place-eq0.false) in
    let ripe = sym c.is_ripe.ensures ∙ c.if-not-is_ripe.false in
    gone_now s c.args.place c.index-answer.result.now some c.requires.place c.index-answer.ensures c.requires.noted c.requires.leases ripe
    (levels_of c.release.new.self) c.release.ensures.released
    c.remove.new.self.items c.remove.ensures.items (value_of c.release_before-2.new.state) c.release_before-2.result c.release_before-2.ensures.goes

pub returns-clause-cuts : goal.returns-clause-cuts
returns-clause-cuts g t c =
    let s = value_of c.args.state.now in
    let some : 0 < c.args.place = omega (arith, c.if-place-eq0.false) in
    let ripe = sym c.is_ripe.ensures ∙ c.if-not-is_ripe.false in
    c.release_before-2.ensures.cuts
    ∙ ripe_cuts s c.args.place c.index-answer.result.now some c.requires.place c.index-answer.ensures c.requires.noted c.requires.leases ripe
    (levels_of c.release.new.self) c.release.ensures.released
    c.remove.new.self.items c.remove.ensures.items
