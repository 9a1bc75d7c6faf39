use Rattle.assise_workers.proofs.Common.{arith, ◌≡◌, ◌∙◌, ◌+◌, ◌++◌, ◌∷◌, [], map, take, subst, sym, ap, client_of, limit_of, seen_by, TurnsTo, SeesAll, Turned}
use Rattle.assise_libfs.proofs.Shared.Same.{same-then}
use Rattle.assise_workers.proofs.Shared.Lists.{lent_more, one_more_of}
use Rattle.assise_workers.proofs.serving.make_calls.Goals as goal

pub loop-op-preserved : goal.loop-op-preserved
loop-op-preserved g c =
    let before = c.loop-op.invariant in
    let first = c.args.libfs.now in
    let now = c.call_meanwhile-reply.new.self in
    let calls = c.args.calls.now in
    let i = c.loop-op.op-index in
    let T = Turned g.S.Growing.history g.S.Served.acts (limit_of first) in
    let op = c.op-item.result in
    let one = one_more_of T _ _ _ _ _ _ op.now c.call_meanwhile-reply.result _ before.same.client before.sees c.call_meanwhile-reply.ensures.sees
    c.call_meanwhile-reply.ensures.refused
    (subst (λ limit. TurnsTo g.S.Growing.history g.S.Served.acts (client_of c.loop-op.libfs) op.now limit c.call_meanwhile-reply.result
    (seen_by c.loop-op.libfs) (seen_by now)) before.same.limit c.call_meanwhile-reply.ensures.turns) in
    let so_far = map (λ op. op.now) (take i calls) in
    let next : map (λ op. op.now) (take (i + 1) calls) ≡ so_far ++ op.now ∷ [] = lent_more calls i op c.loop-op-test.true
    ∙ ap (λ z. so_far ++ z.now ∷ []) (sym c.op-item.is) in
    let pushed = subst (λ z. SeesAll T (client_of first) (so_far ++ op.now ∷ []) (seen_by first) z (seen_by now)) (sym c.push_reserved.ensures.items) one in
    record {
      same = same-then first c.loop-op.libfs now before.same c.call_meanwhile-reply.ensures.same;
      count = omega (arith, c.push_reserved.ensures.len, before.count);
      room = omega (arith, c.push_reserved.ensures.capacity, before.room);
      sees = subst (λ z. SeesAll T (client_of first) z (seen_by first) c.push_reserved.new.self.items (seen_by now)) (sym next) pushed;
    }
