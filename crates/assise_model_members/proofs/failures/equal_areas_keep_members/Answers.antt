use Rattle.assise_model_members.proofs.Shared.DigestNoted.{areas_keep, keeps_areas}
use Rattle.assise_model_members.proofs.failures.equal_areas_keep_members.Goals as goal

pub returns : goal.returns
returns c = record { keeps = areas_keep; areas = keeps_areas }
