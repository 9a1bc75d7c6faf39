use Rattle.assise_manager.proofs.Common.{[], ◌≡◌, ◌∙◌, sym, ap, map, subst, arith, fulls, IsMembership, plains, full_nodes, standing, listed_inodes}
use Rattle.assise_manager.proofs.Places.{fulls_push, plains_push}
use Rattle.assise_manager.proofs.Shared.Lawful.{all_full_lawful}
use Rattle.assise_manager.proofs.members.Members.new.Goals as goal

pub loop-preserved : goal.loop-preserved
loop-preserved c = (
  ap (map standing) c.in_ok-push.ensures.items ∙ fulls_push c.loop.nodes.items c.loop.counter c.loop.invariant.0,
  (let l = c.in_ok-push.ensures.len in let m = c.loop.invariant.1 in omega arith),
  c.in_ok-push-2.ensures.items
      ∙ plains_push c.loop.levels.items c.loop.counter c.loop.invariant.2,
)

pub invariant_of-result : goal.invariant_of-result
invariant_of-result c =
    let nodes : map standing c.loop.nodes.items ≡ fulls c.args.count = c.loop.invariant.0
    ∙ ap fulls (let l = c.loop.auto.counter-end in let m = c.loop-test.false in omega arith) in
    let levels : c.loop.levels.items ≡ plains c.args.count = c.loop.invariant.2
    ∙ ap plains (let l = c.loop.auto.counter-end in let m = c.loop-test.false in omega arith) in
    record {
      lawful = subst (λ ns. IsMembership
          (record { epoch = 1; nodes = ns; written = map listed_inodes c.new-written.result.items; levels = c.loop.levels.items })) (sym nodes)
          (subst (λ ws. IsMembership (record { epoch = 1; nodes = fulls c.args.count; written = map listed_inodes ws; levels = c.loop.levels.items }))
          (sym c.new-written.ensures.items)
          (subst (λ ls. IsMembership (record { epoch = 1; nodes = fulls c.args.count; written = []; levels = ls })) (sym levels)
          (all_full_lawful c.args.count c.requires.some)));
      listed = c.list_full.ensures.full ∙ ap (λ ns. full_nodes (map standing ns)) c.deref.ensures.value;
      room = (let l = c.loop.invariant.1 in let m = c.in_ok-full.ensures.capacity in let n = c.list_full.ensures.capacity in let o = c.loop.auto.counter-end in
          omega arith);
      few = (let l = c.loop.invariant.1 in let o = c.loop.auto.counter-end in let p = c.ranges.count.fits in omega arith);
    }
