use Rattle.assise_model_leases.proofs.Shared.QuietLeases.{coalesced_keeps}
use Rattle.assise_model_leases.proofs.handing.an_equal_net_effect_keeps_leases.Goals as goal

pub returns : goal.returns
returns r = λ w u l c s new was h a e. coalesced_keeps w u l c s new was h a e
