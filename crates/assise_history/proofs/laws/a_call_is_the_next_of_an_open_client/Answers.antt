use Rattle.assise_history.proofs.Common.{calls, IsNextCall}
use Rattle.assise_history.proofs.Shared.OneMore.{answered_in, follows_in}
use Rattle.assise_history.proofs.laws.a_call_is_the_next_of_an_open_client.Goals as goal

pub returns : goal.returns
returns c = record {
  number = λ h before later x legal split. let next : IsNextCall before x = follows_in h before later (calls x) legal split in next.number;
  ready = λ h before later x legal split. let next : IsNextCall before x = follows_in h before later (calls x) legal split in next.ready;
  reply = answered_in;
}
