use Rattle.assise_history.proofs.Steps.{changed_more}
use Rattle.assise_history.proofs.Common.{summary_with_call}
use Rattle.assise_history.proofs.prefix.note_call.Goals as goal

pub loop-k-preserved : goal.loop-k-preserved
loop-k-preserved c = changed_more (summary_with_call c.args.call.now) c.args.clients.now c.loop-k.clients _ _ _ c.loop-k-test.true c.loop-k.auto.clients
    c.loop-k.invariant c.with_call.ensures
