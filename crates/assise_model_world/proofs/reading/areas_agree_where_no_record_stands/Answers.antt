use Rattle.assise_model_world.proofs.Shared.AreasAgree.{same_areas}
use Rattle.assise_model_world.proofs.reading.areas_agree_where_no_record_stands.Goals as goal

pub returns : goal.returns
returns c = λ w n m i s f g h. same_areas w n m i s.coherent f g h
