use Rattle.assise_model_leases.proofs.Shared.Waiters.{asked_other, asked_in_way, asked_elsewhere}
use Rattle.assise_model_leases.proofs.waiting.what_is_asked_for_is_awaited.Goals as goal

pub returns-clause-awaited : goal.returns-clause-awaited
returns-clause-awaited r = λ w u l k c i mode e. e.asked.revoked

pub returns-clause-other : goal.returns-clause-other
returns-clause-other r = λ w u l k c i d mode e h. asked_other w u l k c i mode e d h

pub returns-clause-in_the_way : goal.returns-clause-in_the_way
returns-clause-in_the_way r = λ w u l k c i d mode a e h is. asked_in_way w u l k c i mode e d a h is

pub returns-clause-elsewhere : goal.returns-clause-elsewhere
returns-clause-elsewhere r = λ w u l k c i d j mode e other. asked_elsewhere w u l k c i mode e d j other
