use Rattle.assise_machine.proofs.Common.{◌∙◌, ap, sym, level_of, newest, value_of}
use Rattle.assise_machine.proofs.RaisedNode.{members_as, node_there, node_none}
use Rattle.assise_machine.proofs.cluster.ClusterOf.level.Goals as goal

pub returns-in-Ok-clause-level : goal.returns-in-Ok-clause-level
returns-in-Ok-clause-level g c =
    c.newest.ensures.newest ∙ ap newest c.level.ensures
    ∙ sym (ap (λ m. newest (level_of m.levels c.args.node)) (members_as (value_of c.args.self.now.sound.state) c.args.node))

pub returns-in-Ok-clause-ok : goal.returns-in-Ok-clause-ok
returns-in-Ok-clause-ok g c = node_there (value_of c.args.self.now.sound.state) c.args.node c.phase.result _ c.phase.ensures c.in-Ok.is

pub returns-in-Err-clause-ok : goal.returns-in-Err-clause-ok
returns-in-Err-clause-ok g c = node_none (value_of c.args.self.now.sound.state) c.args.node c.phase.result _ c.phase.ensures c.in-Err.is
