-- Two paths are the same where their parents and their last names are.
use Rattle.assise_inode_plan.proofs.Common.{◌≡◌, ◌≤◌, ◌-◌, ◌&&◌, ◌==◌, ℕ, Bool, true, false, List, length, slice_index_or, refl, same_path, last_name}
use Rattle.assise_inode_plan.proofs.Common.{parent_of, same_is, arith}
use Rattle.std.specs.Cmp.{unsigned_Decides}
use Rattle.std.specs.Cmp.Lexicographic.{pointwise, pointwise_decides}
use Rattle.assise_seq_tree.proofs.Shared.Moves.{parent_and_last}
use Rattle.assise_inode_plan.proofs.WalkEnds.{name_is}

both_true : (b c : Bool) → (b && c) ≡ true → (b ≡ true) × (c ≡ true)
both_true true c h = (refl, h)
both_true false c h = cc

module _ (p q : List (List ℕ)) (some : 1 ≤ length p) (more_some : 1 ≤ length q) where
  same_parts : (same_path (parent_of p) (parent_of q) && pointwise ◌==◌ (last_name p) (last_name q)) ≡ true → p ≡ q
  same_parts h = grind (
    arith,
    parent_and_last p some,
    parent_and_last q more_some,
    same_is (parent_of p) (parent_of q),
    pointwise_decides unsigned_Decides
        (last_name p) (last_name q),
  )

  parts_same : p ≡ q → (same_path (parent_of p) (parent_of q) && pointwise ◌==◌ (last_name p) (last_name q)) ≡ true
  parts_same h = grind (arith, pointwise_decides)

  by_parts : (same_path (parent_of p) (parent_of q) && pointwise ◌==◌ (last_name p) (last_name q)) ≡ same_path p q
  by_parts = grind (arith, same_parts, parts_same, same_is)

  -- what is tested of the parents and of the last names says whether the paths are the same
  pub same_place : (name new : List ℕ) → name ≡ slice_index_or p (length p - 1) name → new ≡ slice_index_or q (length q - 1) new →
      (stays : Bool) → stays ≡ same_path (parent_of p) (parent_of q) → (same : Bool) → same ≡ (stays && pointwise ◌==◌ name new) → same ≡ same_path p q
  same_place name new name_at new_at stays beside same tested = grind (arith, name_is, by_parts)
