use Rattle.assise_model_world.proofs.Shared.StepLists.{begun_dropped, every_run, run_falls, run_stays}
use Rattle.assise_model_world.proofs.runs.whatever_happens_it_holds.Goals as goal

pub returns : goal.returns
returns c = record { begun = begun_dropped; sound = every_run; none_falls = run_falls; stay = run_stays }
