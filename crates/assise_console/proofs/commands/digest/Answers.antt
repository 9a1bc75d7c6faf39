use Rattle.assise_console.proofs.Common.{refl}
use Rattle.assise_console.proofs.OneCommand.{digests_by}
use Rattle.assise_console.proofs.commands.digest.Goals as goal

pub returns-in-Ok : goal.returns-in-Ok
returns-in-Ok g c = digests_by _ _ _ _ _ _ c.in-Some.ensures.some refl c.in-Ok.ensures.happens

pub returns-in-Err : goal.returns-in-Err
returns-in-Err g c = digests_by _ _ _ _ _ _ c.in-Some.ensures.some refl c.in-Err.ensures.happens
