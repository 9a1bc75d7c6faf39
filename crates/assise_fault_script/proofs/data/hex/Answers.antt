use Rattle.assise_fault_script.proofs.Common.{sym, ◌∙◌, arith}
use Rattle.assise_fault_script.proofs.Hex.{two_more}
use Rattle.assise_fault_script.proofs.data.hex.Goals as goal

pub loop-rest-preserved : goal.loop-rest-preserved
loop-rest-preserved c =
    let one = two_more c.loop-rest.bytes.items c.loop-rest.rest.now c.in_ok-pair.field-0 c.in-len2-up.len_at_least (sym c.in_ok-pair.ensures) in
    record {
      read = rw c.push_reserved.ensures.items (one ∙ c.loop-rest.invariant.read);
      room = omega arith;
    }
