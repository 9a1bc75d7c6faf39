use Rattle.assise_libfs.proofs.Common.{subst, sym, ∥∥₁_map, IsLegal}
use Rattle.assise_libfs.proofs.Shared.Tries.{opened-extends}
use Rattle.assise_libfs.proofs.libfs.LibFs.meet.Goals as goal

pub invariant_of-first-clause-opened : goal.invariant_of-first-clause-opened
invariant_of-first-clause-opened g c = ∥∥₁_map c.args.first.opened (opened-extends _ _ _ _ c.meet-pass.ensures.first.0)

pub invariant_of-first-clause-legal : goal.invariant_of-first-clause-legal
invariant_of-first-clause-legal g c = let known = c.meet-pass.ensures.known in ∥∥₁_map (g.met.S.Served.legal known.0) (λ l. subst IsLegal (sym known.1) l)

pub invariant_of-second-clause-opened : goal.invariant_of-second-clause-opened
invariant_of-second-clause-opened g c = ∥∥₁_map c.args.second.opened (opened-extends _ _ _ _ c.meet-pass.ensures.second.0)
