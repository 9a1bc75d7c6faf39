use Rattle.assise_history.proofs.Shared.Legality.{one_more}
use Rattle.assise_history.proofs.Shared.OneMore.{open_more, call_more, crash_more, failure_more, return_more}
use Rattle.assise_history.proofs.laws.one_entry_more.Goals as goal

pub returns : goal.returns
returns c = record { any = one_more; opened = open_more; called = call_more; crashed = crash_more; failed = failure_more; returned = return_more }
