use Rattle.assise_workers.proofs.Common.{◌≡◌, arith, length, HasServed}
use Rattle.assise_workers.proofs.Shared.Pairs.{zip_of_all}
use Rattle.assise_workers.proofs.running.run_clients.Goals as goal

pub returns : goal.returns
returns g c =
    let before = c.loop-list.invariant in
    let rest = c.loop-list.list-iterator.rest in
    let none : length rest.items ≡ 0 = omega (arith, rest.ok.0, c.in-None.ensures.steps.0) in
    zip_of_all (λ h. h.promise.0.value) (λ list end. HasServed g.S.Growing.history g.S.Served.acts list end) c.loop-list.handles.items rest.items
    c.args.lists.items c.join_clients-2.result.items before.given none c.join_clients-2.ensures
