-- Where all nodes are full nothing is noted.
use Rattle.assise_machine.proofs.Common.{◌≡◌, ℕ, ◌≤◌, true, List, [], ◌∷◌, length, map, refl, ap, sym, ◌∙◌, arith, list_all, nat_cmp, noted, stale_again}
use Rattle.assise_machine.proofs.Common.{with_written, Membership, Standing, down, full, full_nodes, is_full, returning, NoneListed}
use Rattle.std.specs.FinSet as set
use Rattle.assise_manager.proofs.Shared.Lawful.{length_with_written, stale_full}
use Rattle.assise_manager.proofs.Shared.Nodes.{all_full_map, count_all_full, few_full}

-- ---- what is noted then

none_again : (n : ℕ) (inodes : set.FinSet nat_cmp) (nodes : List Standing) → list_all is_full nodes ≡ true → map (stale_again n inodes) nodes ≡ nodes
none_again n inodes [] all = refl
none_again n inodes (full ∷ nodes) all = ap (λ ns. full ∷ ns) (none_again n inodes nodes all)
none_again n inodes (down since ∷ nodes) all = grind (arith, all)
none_again n inodes (returning since donor stale ∷ nodes) all = grind (arith, all)

none_written : (lists : List (set.FinSet nat_cmp)) (inodes : set.FinSet nat_cmp) → length lists ≡ 0 → with_written lists inodes ≡ lists
none_written [] inodes none = refl
none_written (list ∷ lists) inodes none = absurd (omega (arith, none))

pub nothing_noted : (m : Membership) (n : ℕ) (inodes : set.FinSet nat_cmp) → length m.nodes ≤ length (full_nodes m.nodes) → NoneListed m → noted m n inodes ≡ m
nothing_noted m n inodes many none =
    let all = count_all_full 1 m.nodes (omega (arith, few_full 1 m.nodes, many)) in
    (λ i. record { epoch = m.epoch; nodes = none_again n inodes m.nodes all i; written = none_written m.written inodes (none all) i; levels = m.levels })

-- ---- and it stays so

pub still_none : (m : Membership) (n : ℕ) (inodes : set.FinSet nat_cmp) → NoneListed m → NoneListed (noted m n inodes)
still_none m n inodes none all = length_with_written m.written inodes ∙ none (sym (all_full_map (stale_again n inodes) (stale_full n inodes) m.nodes) ∙ all)
