use Rattle.assise_history.proofs.Common.{opens, returns, MayOpen}
use Rattle.assise_history.proofs.Shared.ClientCounts.{opens_once}
use Rattle.assise_history.proofs.Shared.OneMore.{follows_in}
use Rattle.assise_history.proofs.laws.clients_are_opened_in_order.Goals as goal

pub returns-clause-next : goal.returns-clause-next
returns-clause-next c = λ h before later client n u legal split. let may : MayOpen before client n =
    follows_in h before later (opens client n u) legal split in may.next

pub returns-clause-once : goal.returns-clause-once
returns-clause-once c = λ h legal. opens_once h legal

pub returns-clause-up : goal.returns-clause-up
returns-clause-up c = λ h before later client n u legal split. let may : MayOpen before client n =
    follows_in h before later (opens client n u) legal split in may.up

pub returns-clause-down : goal.returns-clause-down
returns-clause-down c = λ h before later n legal split. follows_in h before later (returns n) legal split
