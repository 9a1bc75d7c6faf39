use Rattle.assise_console.proofs.Common.{◌↔◌, IsTrue, refl, subst, IsLegal, is_verdict}
use Rattle.assise_console.proofs.commands.check.Goals as goal

pub returns-in-Ok : goal.returns-in-Ok
returns-in-Ok g c = is_verdict c.in-Ok.legal refl (subst (λ h. IsTrue c.in-Ok.legal ↔ IsLegal h) c.history.ensures.history c.in-Ok.ensures.decided)
