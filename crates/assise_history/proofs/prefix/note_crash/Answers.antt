use Rattle.assise_history.proofs.Steps.{changed_more}
use Rattle.assise_history.proofs.Common.{with_crash}
use Rattle.assise_history.proofs.prefix.note_crash.Goals as goal

pub loop-k-preserved : goal.loop-k-preserved
loop-k-preserved c = changed_more (with_crash c.args.client) c.args.clients.now c.loop-k.clients _ _ _ c.loop-k-test.true c.loop-k.auto.clients
    c.loop-k.invariant c.with_crash.ensures
