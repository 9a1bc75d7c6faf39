-- What is kept of records moves into the area.
use Rattle.assise_digest.proofs.Common.{◌≡◌, ◌&&◌, ◌||◌, ◌+◌, ◌-◌, ◌<◌, ℕ, length, drop, slice_index_or, arith, Bool, cond, not, List, [], ◌∷◌, Some, None}
use Rattle.assise_digest.proofs.Common.{refl, sym, nat_eq, is_some, at_drop_more, drop_all, nat_cmp_total, option_or, list_any, InodeMap, same_inodes, alike}
use Rattle.assise_digest.proofs.Common.{KeepsNoMore, overlaid, Pending, end, LogInvariant, Received}
use Rattle.std.specs.Map.{lookup, keys_of}
use Rattle.std.specs.FinMap as map
use Rattle.assise_digest.proofs.InodesUnderRecords.{get-overlaid}
use Rattle.assise_digest.proofs.Shared.KeptStands.{stands_for_none}

-- ---- numbers without an inode

-- a key is one of the keys where it has a value
pub any_key : {X : Type 0} (es : List (ℕ × X)) (i : ℕ) → list_any (nat_eq i) (keys_of es) ≡ is_some (lookup (nat_eq i) es)
any_key [] i = refl
any_key (e ∷ es) i = grind (arith, any_key es i)

-- those that were found, and those that are still to be looked at and will be
abbrev pub found_or_left : (ℕ → Bool) → List ℕ → List ℕ → ℕ → Bool
found_or_left absent found left i = list_any (nat_eq i) found || (list_any (nat_eq i) left && absent i)

-- the first of those that are left
pub left_number : {Y : Type 0} (F : List ℕ → Y) (xs : List ℕ) (k : ℕ) → k < length xs → F (slice_index_or xs k 0 ∷ drop (k + 1) xs) ≡ F (drop k xs)
left_number F xs k h = sym (at_drop_more F xs k 0 h)

-- ---- the inodes after the move

-- the next one is taken out
pub removed_next : (m : InodeMap) (x i : ℕ) (left : List ℕ) → cond (list_any (nat_eq i) left) None (map.get (map.remove m x) i)
    ≡ cond (list_any (nat_eq i) (x ∷ left)) None (map.get m i)
removed_next m x i left = grind (arith, map.get-remove, nat_cmp_total, alike)

-- what has a value stands in the area, and what has none is gone from there: that is the map with what is kept
pub moved_all : (m w v : InodeMap) (p : Pending) (gone : List ℕ) → KeepsNoMore p
    → ((i : ℕ) → list_any (nat_eq i) gone ≡ (is_some (map.get p.last i) && not (is_some (map.get p.inodes i))))
    → ((i : ℕ) → map.get w i ≡ option_or (map.get p.inodes i) (map.get m i))
    → ((i : ℕ) → map.get v i ≡ cond (list_any (nat_eq i) gone) None (map.get w i))
    → v ≡ overlaid m p
moved_all m w v p gone no_more which moved taken = grind (arith, same_inodes, get-overlaid)

-- ---- a log of which all is digested

-- nothing is ahead
pub sound_settled : (m w : InodeMap) (x : Received) (p : Pending) (d : ℕ) → LogInvariant m x → d ≡ end x.log → p.inodes ≡ map.empty → p.last ≡ map.empty
    → LogInvariant w (record { log = x.log; digested = d; pending = Some p })
sound_settled m w x p d s is inodes last = grind (arith, drop_all, stands_for_none)
