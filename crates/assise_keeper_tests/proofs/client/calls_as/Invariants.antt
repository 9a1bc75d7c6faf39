use Rattle.assise_keeper_tests.proofs.Common.{◌≡◌, ◌++◌, map, Some, client, mine, IsPassOf, made}
use Rattle.assise_keeper_tests.proofs.client.calls_as.Given as goal

abbrev pub invariant-loop : goal.invariant-loop
invariant-loop g l = IsPassOf l.keeper l.pass × (client l.pass ≡ Some l.caller) × (mine l.pass ≡ mine l.fn.pass ++ map (made l.caller) l.numbers.items)
