use Rattle.assise_manager.proofs.Shared.Lawful.{call_lawful, after_all}
use Rattle.assise_manager.proofs.laws.members_stay_lawful.Goals as goal

pub returns-clause-call : goal.returns-clause-call
returns-clause-call c = call_lawful

pub returns-clause-calls : goal.returns-clause-calls
returns-clause-calls c = after_all
