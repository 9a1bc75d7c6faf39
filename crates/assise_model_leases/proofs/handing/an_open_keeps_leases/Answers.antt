use Rattle.assise_model_leases.proofs.Shared.QuietLeases.{open_keeps}
use Rattle.assise_model_leases.proofs.handing.an_open_keeps_leases.Goals as goal

pub returns : goal.returns
returns r = λ w u l k n a e. open_keeps w u l k n a e
