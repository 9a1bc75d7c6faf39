-- Where a list has a place for one more lease.
use Rattle.assise_lease_table.proofs.Common.{◌≡◌, ℕ, ◌<◌, ◌≤◌, suc, Bool, true, false, cond, not, List, [], ◌∷◌, Option, Some, is_some, filter, length, sym}
use Rattle.assise_lease_table.proofs.Common.{refl, ap, subst, ◌∙◌, arith, SmallVec, small_vec_len, HasRoomFor, Lease, HasPlace, HasPlaceIn, lease_of, leave_out}
use Rattle.assise_lease_table.proofs.Common.{without_holder, is_own}
use Rattle.assise_lease_table.specs.declared.lease_map.LeaseMap.{LeaseMap}

kept_or_not : (b : Bool) (l : Lease) (ls : List Lease) (n : ℕ) → length ls ≤ n → length (cond b (l ∷ ls) ls) ≤ suc n
kept_or_not true l ls n h = omega (arith, h)
kept_or_not false l ls n h = omega (arith, h)

pub not_longer : (choice : Lease → Bool) (ls : List Lease) → length (leave_out choice ls) ≤ length ls
not_longer choice [] = omega arith
not_longer choice (l ∷ ls) = kept_or_not (not (choice l)) l (leave_out choice ls) (length ls) (not_longer choice ls)

shorter_at : (b : Bool) (l : Lease) (rest ls : List Lease) (found : Option Lease) → length rest ≤ length ls → (is_some found ≡ true → length rest < length ls)
    → is_some (cond b (Some l) found) ≡ true → length (cond (not b) (l ∷ rest) rest) < suc (length ls)
shorter_at true l rest ls found long less e = omega (arith, long)
shorter_at false l rest ls found long less e = let now = less e in omega (arith, now)

-- a list with a lease of the holder is shorter without it
pub shorter : (h : ℕ) (ls : List Lease) → is_some (lease_of ls h) ≡ true → length (without_holder h ls) < length ls
shorter h [] e = cc
shorter h (l ∷ ls) e = shorter_at (is_own h l) l (without_holder h ls) ls (lease_of ls h) (not_longer (is_own h) ls) (shorter h ls) e

-- a list without the holder's lease has a place for it
pub place_without : (h : ℕ) (v w : SmallVec Lease) → small_vec_len v ≤ v.capacity → HasPlaceIn h v → w.items ≡ without_holder h v.items →
    small_vec_len w ≤ small_vec_len v → w.capacity ≡ v.capacity → HasRoomFor w 1
place_without h v w fits place items len capacity = grind (arith, shorter)

-- the list of an inode has a place for the holder's lease where the inode has one
pub place_in : (m : LeaseMap) (h : ℕ) (o : Option (SmallVec Lease)) (v : SmallVec Lease) → HasPlace m h o → o ≡ Some v → HasPlaceIn h v
place_in m h o v place is = subst (HasPlace m h) is place

swapped : (a b : Bool) (l : Lease) (xs ys zs : List Lease) (p q : Lease → Bool) → p l ≡ a → q l ≡ b → filter p ys ≡ zs → filter q xs ≡ zs
    → filter p (cond b (l ∷ ys) ys) ≡ filter q (cond a (l ∷ xs) xs)
swapped true true l xs ys zs p q pa qb left right = cc
swapped true false l xs ys zs p q pa qb left right = left ∙ sym right ∙ sym (ap (λ c. cond c (l ∷ filter q xs) (filter q xs)) qb)
swapped false true l xs ys zs p q pa qb left right = ap (λ c. cond c (l ∷ filter p ys) (filter p ys)) pa ∙ left ∙ sym right
swapped false false l xs ys zs p q pa qb left right = left ∙ sym right

-- two filters in either order
pub either_order : (p q : Lease → Bool) (ls : List Lease) → filter p (filter q ls) ≡ filter q (filter p ls)
either_order p q [] = refl
either_order p q (l ∷ ls) = swapped (p l) (q l) l (filter p ls) (filter q ls) (filter p (filter q ls)) p q refl refl refl (sym (either_order p q ls))
