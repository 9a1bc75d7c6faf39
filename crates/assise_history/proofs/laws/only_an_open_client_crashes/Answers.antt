use Rattle.assise_history.proofs.Common.{crashes}
use Rattle.assise_history.proofs.Shared.OneMore.{follows_in}
use Rattle.assise_history.proofs.laws.only_an_open_client_crashes.Goals as goal

pub returns : goal.returns
returns c = λ h before later client legal split. follows_in h before later (crashes client) legal split
