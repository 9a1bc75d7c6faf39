use Rattle.assise_machine.proofs.Shared.Replicated.{begun_so}
use Rattle.assise_machine.proofs.cluster.ClusterOf.new.Goals as goal

pub returns-clause-history : goal.returns-clause-history
returns-clause-history g c = (begun_so (record { sound = c.in_ok-new.field-0 }) c.args.nodes c.args.log c.args.hot c.in_ok-new.ensures.begun).0

pub returns-clause-nodes : goal.returns-clause-nodes
returns-clause-nodes g c = (begun_so (record { sound = c.in_ok-new.field-0 }) c.args.nodes c.args.log c.args.hot c.in_ok-new.ensures.begun).1
