use Rattle.assise_history.proofs.Common.{ap, length, arith}
use Rattle.assise_history.proofs.Payloads.{names_taken}
use Rattle.assise_history.proofs.payload.listed.Goals as goal

pub loop-name-preserved : goal.loop-name-preserved
loop-name-preserved c =
    let counted = names_taken c.args.names.now c.loop-name.name-index c.name-item.result c.loop-name-test.true c.name-item.is in
    omega (arith, c.saturating_add-bytes.ensures, c.loop-name.invariant, counted, ap length c.as_str.ensures.text)
