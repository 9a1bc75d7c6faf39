use Rattle.assise_digest.proofs.Common.{◌+◌, ◌∙◌, None, ap, cond, drop, nat_eq, slice_index_or, list_any}
use Rattle.std.specs.FinMap as map
use Rattle.assise_digest.proofs.MovedInodes.{left_number, removed_next}
use Rattle.assise_digest.proofs.pending.remove_all.Goals as goal

pub loop-inode-preserved : goal.loop-inode-preserved
loop-inode-preserved c =
    let xs = c.args.inodes.now in
    let k = c.loop-inode.inode-index in
    let m = c.loop-inode.area.inodes in
    record {
      gone = λ i.
          ap (λ a. cond (list_any (nat_eq i) (drop (k + 1) xs)) None (map.get a.inodes i)) c.remove.ensures.others
          ∙ removed_next m (slice_index_or xs k 0) i (drop (k + 1) xs)
          ∙ left_number (λ left. cond (list_any (nat_eq i) left) None (map.get m i)) xs k c.loop-inode-test.true
          ∙ c.loop-inode.invariant.gone i;
      capacity = ap (λ a. a.capacity) c.remove.ensures.others ∙ c.loop-inode.invariant.capacity;
    }
