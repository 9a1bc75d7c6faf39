use Rattle.assise_inode_plan.proofs.Common.{values}
use Rattle.assise_inode_plan.proofs.WalkRest.{Left, RootIsSeen}
use Rattle.assise_inode_plan.proofs.walk.walk.Given as goal

abbrev pub invariant-loop-name : goal.invariant-loop-name
invariant-loop-name g l = record {
  left : Left (g.V.View.leased l.view) (values (g.V.Inodes.contents l.view)) l.initial.reads.items l.names l.reads.items l.at l.name-index;
  root : RootIsSeen (g.V.View.leased l.view) l.at;
}
