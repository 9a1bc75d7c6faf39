use Rattle.assise_lease_table.proofs.Common.{◌∙◌, not, ap, ◌++◌, ◌∷◌, [], arith, is_own, leave_out}
use Rattle.assise_lease_table.proofs.Room.{either_order}
use Rattle.assise_lease_table.proofs.holders.put_over.Goals as goal

pub push_reserved-requires : goal.push_reserved-requires
push_reserved-requires g c =
    let room = c.take_own_out.ensures.place c.requires.place in
    omega (arith, room, c.take_out.ensures.len, c.take_out.ensures.capacity)

pub returns : goal.returns
returns g c =
    c.push_reserved.ensures.items
    ∙ ap (λ ls. ls ++ c.args.lease ∷ []) (c.take_out.ensures.items ∙ ap (leave_out (g.T.Chooses.choice c.args.over.now)) c.take_own_out.ensures.items
    ∙ either_order (λ l. not (g.T.Chooses.choice c.args.over.now l)) (λ l. not (is_own c.args.lease.holder l)) c.args.leases.now.items)
