use Rattle.assise_threads.proofs.Common.{arith, ap, length}
use Rattle.assise_workers.proofs.Shared.Pairs.{one_taken, zip_pushed}
use Rattle.assise_threads.proofs.lists.lists_of.Goals as goal

pub loop-libfs-preserved : goal.loop-libfs-preserved
loop-libfs-preserved g c =
    let before = c.loop-libfs.invariant in
    let step = c.in-Some.ensures.steps.0 in
    record {
      all = one_taken _ _ _ _ _ step before.all;
      kept = zip_pushed _ _ _ _ _ _ c.push_reserved.ensures.items before.kept c.in_ok-list_of.ensures.list;
      room = omega (arith, ap length step, c.push_reserved.ensures.len, c.push_reserved.ensures.capacity, before.room);
    }
