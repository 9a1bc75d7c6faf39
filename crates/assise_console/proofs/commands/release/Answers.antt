use Rattle.assise_console.proofs.Common.{refl, released, machine, Released}
use Rattle.assise_console.proofs.OneCommand.{releases_by}
use Rattle.assise_console.proofs.commands.release.Goals as goal

pub returns : goal.returns
returns g c = releases_by (machine c.args.cluster.now) (Released c.release_ready.result) (released c.release_ready.result) (machine c.release_ready.new.self)
    refl c.release_ready.ensures.happens
