use Rattle.assise_model_history.proofs.EntriesPossible.{can_call, can_crash, can_fail, can_fail_again, can_fsync, can_open, can_return}
use Rattle.assise_model_history.proofs.coming.each_entry_can_come.Goals as goal

pub returns : goal.returns
returns c = record {
  opening = can_open;
  call = can_call;
  fsync = can_fsync;
  crash = can_crash;
  failure = can_fail;
  failure_again = can_fail_again;
  comeback = can_return;
}
