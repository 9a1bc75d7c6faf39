use Rattle.assise_keeper_tests.proofs.Common.{IsPassOf}
use Rattle.assise_keeper.specs.Working.{pass_of}
use Rattle.assise_keeper_tests.proofs.client.look_often.Given as goal

abbrev pub invariant-loop : goal.invariant-loop
invariant-loop g l = IsPassOf l.keeper (pass_of l.worker)
