use Rattle.assise_console.proofs.Common.{refl, raise}
use Rattle.assise_console.proofs.OneCommand.{does_at}
use Rattle.assise_console.proofs.commands.raise.Goals as goal

pub returns-in-Ok : goal.returns-in-Ok
returns-in-Ok g c = does_at raise _ _ _ _ _ _ c.in-Some.ensures.some (refl, refl) c.in-Ok.ensures.happens

pub returns-in-Err : goal.returns-in-Err
returns-in-Err g c = does_at raise _ _ _ _ _ _ c.in-Some.ensures.some refl c.in-Err.ensures.happens
