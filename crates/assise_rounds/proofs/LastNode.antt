-- Behind a number that names no node there is none.
use Rattle.assise_rounds.proofs.Common.{◌≡◌, ◌≤◌, ℕ, false, List, Option, None, Some, is_none, slice_get, arith, BadNode, WrongPhase, node_fault, unless_full}
use Rattle.assise_rounds.proofs.Common.{Machine}
use Rattle.std.proofs.lemmas.Option.{slice_get_cases, slice_get_past}
use Rattle.assise_manager.specs.Standings.{Standing}

none_further : {X : Type 0} (xs : List X) (n j : ℕ) → slice_get xs n ≡ None → n ≤ j → slice_get xs j ≡ None
none_further xs n j none far = grind (arith, slice_get_cases, slice_get_past)

no_standing : (s : Option Standing) → unless_full WrongPhase s ≡ Some BadNode → s ≡ None
no_standing s nowhere = grind arith

pub none_there : (m : Machine) (n j : ℕ) → 1 ≤ n → node_fault m n ≡ Some BadNode → n ≤ j → is_none (node_fault m j) ≡ false
none_there m n j some nowhere far = grind (arith, none_further, no_standing)
