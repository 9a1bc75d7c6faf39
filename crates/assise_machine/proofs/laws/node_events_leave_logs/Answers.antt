use Rattle.assise_machine.proofs.Elsewhere.{event_ahead, event_area}
use Rattle.assise_machine.proofs.KeptPrefixes.{failing_ahead, failing_elsewhere}
use Rattle.assise_machine.proofs.laws.node_events_leave_logs.Goals as goal

pub returns-clause-area : goal.returns-clause-area
returns-clause-area r = λ m m' e a step j i there other. event_area m m' e a step j i there other

pub returns-clause-ahead : goal.returns-clause-ahead
returns-clause-ahead r = λ m m' e a step none j c there other. event_ahead m m' e a step none j c there other

pub returns-clause-failure : goal.returns-clause-failure
returns-clause-failure r = λ m m' n losses h step j c there other. failing_ahead m m' n losses h step j c there other

pub returns-clause-elsewhere : goal.returns-clause-elsewhere
returns-clause-elsewhere r = λ m m' n a h step j c there other away. failing_elsewhere m m' n a h step j c there other away
