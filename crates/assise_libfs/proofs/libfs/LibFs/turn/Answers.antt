use Rattle.assise_libfs.proofs.Common.{arith, ∥∥₁_map}
use Rattle.assise_libfs.proofs.Shared.Tries.{answers-few, opened-extends, try-counts, try-extends}
use Rattle.assise_libfs.proofs.libfs.LibFs.turn.Goals as goal

pub overflow_add-self : goal.overflow_add-self
overflow_add-self g c = let few = answers-few c.try_turn-tried.result in let a = c.answered.ensures in omega arith

pub invariant_of-self-clause-opened : goal.invariant_of-self-clause-opened
invariant_of-self-clause-opened g c = ∥∥₁_map c.args.self.now.opened (opened-extends _ _ _ _ (try-extends _ _ _ _ _ c.try_turn-tried.ensures.sees))

pub invariant_of-self-clause-counted : goal.invariant_of-self-clause-counted
invariant_of-self-clause-counted g c =
    let counts = try-counts _ _ _ _ _ c.try_turn-tried.ensures.sees in let was = c.args.self.now.counted in let a = c.answered.ensures in omega arith
