use Rattle.assise_lease_tree.proofs.Shared.Steps.{call_lawful, after_all}
use Rattle.assise_lease_tree.proofs.laws.leases_stay_lawful.Goals as goal

pub returns-clause-call : goal.returns-clause-call
returns-clause-call c old new call lawful does = call_lawful old lawful call new does

pub returns-clause-calls : goal.returns-clause-calls
returns-clause-calls c = after_all
