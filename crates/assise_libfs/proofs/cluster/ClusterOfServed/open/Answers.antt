use Rattle.assise_libfs.proofs.Faults.{opened_or_refused}
use Rattle.assise_libfs.proofs.cluster.ClusterOfServed.open.Goals as goal

pub returns-clause-refused : goal.returns-clause-refused
returns-clause-refused g c = opened_or_refused _ c.args.self.now.sound.invariant.holds c.args.node c.args.durability _ c.open.result c.open.ensures.happens

pub returns-clause-acts : goal.returns-clause-acts
returns-clause-acts g c = c.open.ensures.happens
