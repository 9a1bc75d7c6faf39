-- Why the call of a client that was opened is refused.
use Rattle.assise_libfs.proofs.Common.{ℕ, List, ∥∥₁_elim, Op, Refusal, OutOfMemory, Busy, BadClient, EntryValue, MayRefuse, MayRefuseTry, IsOpenedOn}

pub refused-opened : (c n : ℕ) (op : Op) (h : List EntryValue) (r : Refusal) → ∥ IsOpenedOn h c n ∥₁ → MayRefuseTry c op h r → MayRefuse c op h r
refused-opened c n op h OutOfMemory o f = tt
refused-opened c n op h Busy o f = tt
refused-opened c n op h BadClient o f = ∥∥₁_elim o (λ x y. absurd x) (f n)
refused-opened c n op h _ o f = f
