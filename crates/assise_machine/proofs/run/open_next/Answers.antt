use Rattle.assise_machine.proofs.Common.{◌≡◌, length, arith, machine, happens}
use Rattle.assise_machine.proofs.Shared.EventLists.{opened_bare}
use Rattle.assise_machine.proofs.run.open_next.Goals as goal

pub returns-in_default-clause-served : goal.returns-in_default-clause-served
returns-in_default-clause-served g c =
    let none : length c.args.stock.now.items ≡ 0 = omega (arith, c.in_default.ensures.cases.0, c.args.stock.now.ok.0) in
    opened_bare (length c.args.stock.now.items) (machine c.args.cluster.now) c.args.node c.args.durability c.open_refusal.result c.unwrap_or.result none
    c.open_refusal.ensures c.unwrap_or.ensures

pub returns-in-Err-clause-served : goal.returns-in-Err-clause-served
returns-in-Err-clause-served g c = happens c.in-Err.ensures.happens
