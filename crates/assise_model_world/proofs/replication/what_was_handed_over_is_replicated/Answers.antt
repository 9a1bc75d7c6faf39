use Rattle.assise_model_world.proofs.Shared.Replicated.{handed_over}
use Rattle.assise_model_world.proofs.Shared.RegionAlone.{first_undigested-below}
use Rattle.assise_model_world.proofs.replication.what_was_handed_over_is_replicated.Goals as goal

pub returns : goal.returns
returns c = record { digested = handed_over; calls_replicated = λ w d s. first_undigested-below w s.coherent d }
