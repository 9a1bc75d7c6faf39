use Rattle.assise_digest.proofs.Common.{◌∙◌, None, ap, cond, nat_eq, list_any}
use Rattle.std.specs.FinMap as map
use Rattle.assise_digest.proofs.MovedInodes.{moved_all}
use Rattle.assise_digest.proofs.pending.Pending.settle.Goals as goal

pub returns-clause-moved : goal.returns-clause-moved
returns-clause-moved c =
    moved_all c.args.area.now.inodes c.put_all.new.self.inodes c.remove_all.new.area.inodes c.args.self.now c.in_ok-gone.gone.items
    c.requires.no_more c.in_ok-gone.ensures.which c.in_ok-put_all.ensures.values
    (λ i. c.remove_all.ensures.gone i ∙ ap (λ xs. cond (list_any (nat_eq i) xs) None (map.get c.put_all.new.self.inodes i)) c.as_slice.ensures.value)
