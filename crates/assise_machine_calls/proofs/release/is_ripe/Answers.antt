use Rattle.assise_machine_calls.proofs.Common.{value_of}
use Rattle.assise_machine_calls.proofs.RipeReleases.{ripe_as}
use Rattle.assise_machine_calls.proofs.release.is_ripe.Goals as goal

pub returns : goal.returns
returns g c =
    ripe_as (value_of c.args.state.now) c.args.answer c.get.result.now c.cut-cut.result c.digested.result c.requires.client c.get.ensures c.cut-cut.ensures
    c.digested.ensures
