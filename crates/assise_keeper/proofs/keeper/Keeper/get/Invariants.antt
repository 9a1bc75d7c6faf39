use Rattle.assise_keeper.proofs.Common.{◌≡◌, IsPassOf, view}
use Rattle.assise_keeper.proofs.keeper.Keeper.get.Given as goal

abbrev pub invariant-loop : goal.invariant-loop
invariant-loop g l = IsPassOf l.self l.pass × (view l.pass ≡ view l.initial.pass)
