use Rattle.assise_mail.proofs.Synced.{delivery_stays}
use Rattle.assise_mail.proofs.laws.an_answered_delivery_stays.Goals as goal

pub returns : goal.returns
returns c = λ h bound draft place message legal past run d. delivery_stays h bound draft place message legal past d run
