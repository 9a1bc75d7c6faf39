use Rattle.assise_machine.proofs.Common.{◌∙◌, ap, sym, phase_of, standing_of, value_of}
use Rattle.assise_machine.proofs.Phases.{full_has_no_fault, no_fault_is_full}
use Rattle.assise_machine.proofs.RaisedNode.{members_as}
use Rattle.assise_machine.proofs.Shared.Replicated.{fine_is_up, up_is_fine}
use Rattle.assise_machine.proofs.cluster.ClusterOf.phase.Goals as goal

pub returns-clause-phase : goal.returns-clause-phase
returns-clause-phase g c =
    c.phase.ensures ∙ sym (ap (λ m. phase_of (standing_of m.nodes c.args.node)) (members_as (value_of c.args.self.now.sound.state) c.args.node))

pub returns-clause-up : goal.returns-clause-up
returns-clause-up g c =
    let s = value_of c.args.self.now.sound.state in (
      λ full. fine_is_up c.args.self.now c.args.node (full_has_no_fault s c.args.node c.phase.result c.phase.ensures full),
      λ up. no_fault_is_full s c.args.node c.phase.result c.phase.ensures (up_is_fine c.args.self.now c.args.node up),
    )
