use Rattle.assise_record.proofs.Common.{arith}
use Rattle.assise_record.proofs.Rests.{behind_head}
use Rattle.assise_record.proofs.decode.record_head_at.Goals as goal

pub returns-clause-rest : goal.returns-clause-rest
returns-clause-rest c =
    behind_head c.args.marked c.args.left c.args.bytes.now c.in_ok-call.rest.now c.in_ok-mark.rest.now c.in_ok-count.rest.now c.in_ok-call.call
    c.in_ok-count.count c.in_ok-mark.mark
    (λ i. omega (arith, c.type_inv.bytes i)) c.in_ok-call.ensures c.in_ok-mark.ensures c.in_ok-count.ensures
