-- That inodes spell a tree is a mere proposition: a path leads to each inode, and no other does.
use Rattle.assise_machine.proofs.Common.{◌≡◌, ℕ, List, Ok, ∥∥₁_elim, Coded, Coded-set, codes, coded_list, coded_result, coded_ℕ, Tree, Values, ReachesOnce}
use Rattle.assise_machine.proofs.Common.{Spells}
use Rattle.std.proofs.Math.Path.{PathP, to_path_p}
use Rattle.assise_names.specs.declared.reply.TreeError.{TreeError}
use Rattle.assise_inode_table.specs.Reach.{Shape, children, reach}

-- ---- what a path shows is a set

coded_shape : Coded Shape
coded_shape = hlevel codes

coded_tree_error : Coded TreeError
coded_tree_error = hlevel codes

-- ---- so it is known

module _ (v : Values) (t : Tree) (some : ∥ Spells v t ∥₁) where
  once : ReachesOnce (children v) 0
  once p q j first second = ∥∥₁_elim some (Coded-set (coded_list (coded_list coded_ℕ)) p q) (λ h. h.tree.once p q j first second)

  one_path : (j : ℕ) → IsProp ((p : List (List ℕ)) × (reach (children v) 0 p ≡ Ok j))
  one_path j x y =
      let path : x.0 ≡ y.0 = once x.0 y.0 j x.1 y.1 in
      let meet : PathP (λ k. reach (children v) 0 (path k) ≡ Ok j) x.1 y.1 =
      to_path_p (λ k. reach (children v) 0 (path k) ≡ Ok j) (Coded-set (coded_result coded_ℕ coded_tree_error) (reach (children v) 0 y.0) (Ok j) _ y.1) in
      (λ i. (path i, meet i))

  pub spells_known : Spells v t
  spells_known = record {
    tree = record {
      shows = λ p. ∥∥₁_elim some (Coded-set (coded_result coded_shape coded_tree_error) _ _) (λ h. h.tree.shows p);
      once = once;
    };
    reached = λ j there. ∥∥₁_elim some (one_path j) (λ h. h.reached j there);
  }
