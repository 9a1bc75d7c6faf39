use Rattle.assise_model_events.proofs.ReleaseKeeps.{unready_kept}
use Rattle.assise_model_events.proofs.AnswerSays.{ready_goes}
use Rattle.assise_model_events.proofs.answers.all_leases_go_that_are_ready.Goals as goal

pub returns-clause-ready : goal.returns-clause-ready
returns-clause-ready r = λ m m' a c i e ready. ready_goes m m' a c i e ready

pub returns-clause-others : goal.returns-clause-others
returns-clause-others r = λ m m' a c i h e unready. unready_kept m m' a h e c i unready
