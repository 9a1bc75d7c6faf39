use Rattle.assise_manager.proofs.Common.{get_or, ◌∙◌, sym, ap, arith, leb-true}
use Rattle.assise_manager.proofs.Shared.Sets.{union-empty, union_take}
use Rattle.std.specs.FinSet as set
use Rattle.assise_manager.proofs.stale_set.StaleSet.insert_reserved.Goals as goal

pub loop-inode-init : goal.loop-inode-init
loop-inode-init c = (sym (union-empty _), (let room = leb-true _ _ c.requires.room in omega arith))

pub loop-inode-preserved : goal.loop-inode-preserved
loop-inode-preserved c = (
  c.insert.ensures.inodes ∙ ap (λ s. set.insert s (get_or c.args.inodes.now c.loop-inode.inode-index 0)) c.loop-inode.invariant.0
      ∙ sym (union_take _ c.args.inodes.now c.loop-inode.inode-index 0 c.loop-inode-test.true),
  (let more = c.insert.ensures.len in let kept = c.insert.ensures.capacity in let left = c.loop-inode.invariant.1 in omega arith),
)
