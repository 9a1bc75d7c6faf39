use Rattle.assise_workers.proofs.Common.{arith, ap, length}
use Rattle.assise_workers.proofs.Shared.Pairs.{one_taken, zip_pushed}
use Rattle.assise_workers.proofs.running.join_clients.Goals as goal

pub loop-handle-preserved : goal.loop-handle-preserved
loop-handle-preserved g c =
    let before = c.loop-handle.invariant in
    let step = c.in-Some.ensures.steps.0 in
    record {
      all = one_taken _ _ _ _ _ step before.all;
      kept = zip_pushed _ _ _ _ _ _ c.push_reserved.ensures.items before.kept c.join.ensures;
      room = omega (arith, ap length step, c.push_reserved.ensures.len, c.push_reserved.ensures.capacity, before.room);
    }
