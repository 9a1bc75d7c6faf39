use Rattle.assise_lease_tree.proofs.Common.{◌≡◌, nat_eq, drop, list_any, get, lives}
use Rattle.assise_lease_tree.proofs.levels.is_busy.Given as goal

abbrev pub invariant-loop-lease : goal.invariant-loop-lease
invariant-loop-lease l = list_any (λ k. lives (get nat_eq l.homes) k.holder l.node) (drop l.lease-index l.clients)
    ≡ list_any (λ k. lives (get nat_eq l.homes) k.holder l.node) l.clients
