use Rattle.assise_history.proofs.Steps.{changed_more}
use Rattle.assise_history.proofs.Common.{with_failure}
use Rattle.assise_history.proofs.prefix.note_failure.Goals as goal

pub loop-k-preserved : goal.loop-k-preserved
loop-k-preserved c = changed_more (with_failure c.args.node) c.args.clients.now c.loop-k.clients _ _ _ c.loop-k-test.true c.loop-k.auto.clients
    c.loop-k.invariant c.with_failure.ensures
