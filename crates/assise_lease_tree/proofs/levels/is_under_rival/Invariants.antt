use Rattle.assise_lease_tree.proofs.Common.{◌≡◌, ◌&&◌, nat_eq, drop, list_any, get, is_rival, lives}
use Rattle.assise_lease_tree.proofs.levels.is_under_rival.Given as goal

abbrev pub invariant-loop-lease : goal.invariant-loop-lease
invariant-loop-lease l = list_any (λ k. lives (get nat_eq l.homes) l.client k.holder && is_rival l.rivals.holder l.rivals.mode k) (drop l.lease-index l.nodes)
    ≡ list_any (λ k. lives (get nat_eq l.homes) l.client k.holder && is_rival l.rivals.holder l.rivals.mode k) l.nodes
