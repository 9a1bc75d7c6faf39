use Rattle.assise_machine.proofs.Shared.EventLists.{all_keep, all_told}
use Rattle.assise_machine.proofs.laws.whatever_is_served_it_holds.Goals as goal

pub returns-clause-keeps : goal.returns-clause-keeps
returns-clause-keeps r = λ k m m' es h run. all_keep k m m' es h run

pub returns-clause-extends : goal.returns-clause-extends
returns-clause-extends r = λ k m m' es run. all_told k m m' es run
