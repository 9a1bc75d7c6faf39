use Rattle.assise_machine_failures.proofs.Common.{◌≡◌, ◌+◌, ◌-◌, ap, ◌∙◌, length, arith, world_of, value_of, kept_to}
use Rattle.assise_machine_failures.proofs.Cuts.{one_kept}
use Rattle.assise_machine_failures.proofs.listing.all_kept.Goals as goal
use Rattle.assise_machine_failures.proofs.listing.all_kept.Goals.{else-loop-client-test, then-loop-client-test+in_ok-push+else-client-client-end}

pub loop-client-preserved : goal.loop-client-preserved
loop-client-preserved g c =
    let w = world_of (value_of c.args.state.now) in
    let back : c.loop-client.client ≡ c.loop-client.client + 1 - 1 = omega arith in
    record {
      places = one_kept w c.args.node c.loop-client.client c.kept.result c.loop-client.all.items c.push.new.self.items c.loop-client.auto.client
          c.loop-client.invariant.places c.in_ok-push.ensures.items c.kept.ensures
          ∙ ap (kept_to w c.args.node) back;
      last = omega (arith, c.loop-client-test.true, c.len-client-end.ensures);
    }

pub returns : goal.returns
returns g c = record {
  kept =
      let s = value_of c.args.state.now in
      let w = world_of s in
      elim c.loop-client-test.branch [
        | else-loop-client-test b ↦
            let last : c.loop-client.client - 1 ≡ length s.clients =
            omega (arith, b.loop-client-test.false, c.loop-client.auto.client, c.loop-client.invariant.last, c.len-client-end.ensures) in
            ap (λ v. v.items) b.all-is ∙ c.loop-client.invariant.places ∙ ap (kept_to w c.args.node) last
        | then-loop-client-test+in_ok-push+else-client-client-end b ↦
            let last : c.loop-client.client ≡ length s.clients = omega (arith, b.loop-client-test.true, c.len-client-end.ensures) in
            ap (λ v. v.items) b.all-is
            ∙ one_kept w c.args.node c.loop-client.client b.kept.result c.loop-client.all.items b.push.new.self.items c.loop-client.auto.client
            c.loop-client.invariant.places b.in_ok-push.ensures.items b.kept.ensures
            ∙ ap (kept_to w c.args.node) last
      ];
}
