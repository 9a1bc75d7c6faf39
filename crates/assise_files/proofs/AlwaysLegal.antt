-- A history that is known to be legal is found legal.
use Rattle.assise_files.proofs.Common.{◌↔◌, Bool, true, IsTrue, Result, Ok, Err, IfOk, ∥∥₁_elim, Refusal}
use Rattle.std.proofs.Math.Bool.{Bool-set}

pub found_so : (r : Result Bool Refusal) (P : Type 0) → IfOk r (λ yes. IsTrue yes ↔ P) → ∥ P ∥₁ → IfOk r (λ yes. IsTrue yes)
found_so (Ok found) P decided holds = ∥∥₁_elim holds (Bool-set found true) (λ h. decided.1 h)
found_so (Err refusal) P decided holds = tt
