use Rattle.assise_machine.proofs.Shared.Replicated.{handed_known}
use Rattle.assise_machine.proofs.headline.what_is_handed_over_is_replicated.Goals as goal

pub returns : goal.returns
returns g c = record { handed_over = λ d i away. handed_known c.args.cluster.now d i away }
