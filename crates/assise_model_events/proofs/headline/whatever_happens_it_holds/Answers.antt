use Rattle.assise_model_events.proofs.Shared.StartKeeps.{begun_holds}
use Rattle.assise_model_events.proofs.Shared.Whatever.{all_keep}
use Rattle.assise_model_events.proofs.headline.whatever_happens_it_holds.Goals as goal

pub returns-clause-begun : goal.returns-clause-begun
returns-clause-begun r = λ nodes limit hot some. begun_holds nodes limit hot some

pub returns-clause-keeps : goal.returns-clause-keeps
returns-clause-keeps r = λ m m' es h run. all_keep m m' es h run
