use Rattle.assise_keeper.specs.Clients.{MayOpenClients}
use Rattle.assise_keeper.specs.Passes.{IsPassOf, opens}
use Rattle.assise_workers_tests.proofs.tests.runs.lists_of.Given as goal

abbrev pub invariant-loop-own : goal.invariant-loop-own
invariant-loop-own g l = IsPassOf l.keeper l.main × MayOpenClients (opens l.main)
