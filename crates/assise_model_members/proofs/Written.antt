-- What was written since an epoch, before and after a change.
use Rattle.assise_model_members.proofs.Common.{◌≡◌, ℕ, zero, suc, ◌+◌, ◌-◌, ◌<◌, ◌≤◌, false, List, [], ◌∷◌, ◌++◌, drop, length, ap, ◌∙◌, arith, both_ways}
use Rattle.assise_model_members.proofs.Common.{false_from_ne_true, with_written, noted, Membership, first_listed, all_inodes, written_since, Within}
use Rattle.assise_model_members.proofs.Common.{union_right, later_within, length_with_written, noted_keeps, noted_there}
use Rattle.std.specs.FinSet as set
use Rattle.std.proofs.lemmas.List.{length-append}
use Rattle.assise_manager.proofs.Shared.Sets.{Numbers, all_push}

-- what isn't in the greater set isn't in the smaller
pub outside : (s t : Numbers) → Within s t → (q : ℕ) → set.contains t q ≡ false → set.contains s q ≡ false
outside s t within q none = false_from_ne_true (set.contains s q) (λ h. both_ways (set.contains t q) none (within q h))

-- ---- a list more

last_within : (k : ℕ) (ls : List Numbers) (l : Numbers) → k ≤ length ls → Within l (all_inodes (drop k (ls ++ l ∷ [])))
last_within zero ls l few q inside = ap (λ s. set.contains s q) (all_push ls l) ∙ union_right (all_inodes ls) l q inside
last_within (suc k) [] l few q inside = absurd (omega arith)
last_within (suc k) (x ∷ ls) l few q inside = last_within k ls l (omega arith) q inside

since_few : (epoch few first : ℕ) → first ≡ (epoch + 1) - few → few ≤ epoch → (epoch + 1) - first ≤ few
since_few epoch few first e low = omega arith

-- an epoch more, with a list
module _ (m m' : Membership) (l : Numbers) (epoch : m'.epoch ≡ m.epoch + 1) (written : m'.written ≡ m.written ++ l ∷ []) where
  same_first : first_listed m' ≡ first_listed m
  same_first = grind (arith, length-append)

  as_listed : (since : ℕ) → written_since m' since ≡ all_inodes (drop (since - first_listed m) (m.written ++ l ∷ []))
  as_listed since = ap (λ k. all_inodes (drop (since - k) m'.written)) same_first ∙ ap (λ ls. all_inodes (drop (since - first_listed m) ls)) written

  -- what was written since an epoch was written since it
  pub still_written : (since : ℕ) → Within (written_since m since) (written_since m' since)
  still_written since q inside = ap (λ s. set.contains s q) (as_listed since) ∙ later_within (since - first_listed m) m.written l q inside

  -- what is on the new list was written since the new epoch
  pub now_written : length m.written ≤ m.epoch → Within l (written_since m' (m.epoch + 1))
  now_written few q inside = grind (arith, as_listed, last_within, since_few)

-- ---- more on the last list

module _ (m : Membership) (n : ℕ) (inodes : Numbers) where
  noted_first : first_listed (noted m n inodes) ≡ first_listed m
  noted_first = ap (λ k. (m.epoch + 1) - k) (length_with_written m.written inodes)

  noted_listed : (since : ℕ) → written_since (noted m n inodes) since ≡ all_inodes (drop (since - first_listed m) (with_written m.written inodes))
  noted_listed since = ap (λ k. all_inodes (drop (since - k) (with_written m.written inodes))) noted_first

  pub noted_still : (since : ℕ) → Within (written_since m since) (written_since (noted m n inodes) since)
  noted_still since q inside = ap (λ s. set.contains s q) (noted_listed since) ∙ noted_keeps (since - first_listed m) m.written inodes q inside

  pub noted_now : (since : ℕ) → since - first_listed m < length m.written → Within inodes (written_since (noted m n inodes) since)
  noted_now since few q inside = ap (λ s. set.contains s q) (noted_listed since) ∙ noted_there (since - first_listed m) m.written inodes few q inside
