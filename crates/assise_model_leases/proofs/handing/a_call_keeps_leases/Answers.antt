use Rattle.assise_model_leases.proofs.Shared.QuietLeases.{call_keeps}
use Rattle.assise_model_leases.proofs.handing.a_call_keeps_leases.Goals as goal

pub returns : goal.returns
returns r = λ w u l x a e. call_keeps w u l x a e
