use Rattle.assise_inode_table.proofs.Common.{ap, ◌∙◌}
use Rattle.assise_inode_table.proofs.FewChanges.{lacks_next}
use Rattle.assise_inode_table.proofs.changes.place_of.Goals as goal

pub loop-place-preserved : goal.loop-place-preserved
loop-place-preserved c =
    lacks_next c.args.changes.now c.loop-place.place c.args.inode c.index-changes-place.result c.loop-place-test.true
    (λ e. c.if-change-inode.false (ap (λ x. x.inode) c.index-changes-place.is ∙ e)) c.loop-place.invariant
