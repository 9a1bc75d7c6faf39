use Rattle.assise_model_leases.proofs.Shared.AskKeeps.{ask_keeps}
use Rattle.assise_model_leases.proofs.handing.an_asking_keeps_leases.Goals as goal

pub returns : goal.returns
returns r = λ w u l k c i mode s a e. ask_keeps w u l k c i mode a e s
